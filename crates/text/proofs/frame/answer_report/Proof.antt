-- The word, what the number asks for and zeros stand one behind the other. Assumes nothing.
use borrow.Author.Rules.{rules}
use Rattle.text.specs.Frame.{report_answer}
use Rattle.text.proofs.PageLaws.{extended_more}
use Rattle.text.proofs.FrameLaws.{length-report_answer, answer-page_of}
use Rattle.text.proofs.frame.answer_report.Statement.{statement}
use Rattle.text.proofs.frame.answer_report.Tie as tie

take-blank-requires : tie.Need-take_blank-requires
take-blank-requires c κs = search rules

say-bytes-requires : tie.Need-say_bytes-p-requires
say-bytes-requires c κs = search rules

say-part-requires : tie.Need-say_part-p-requires
say-part-requires c κs = search rules

say-bytes-requires-2 : tie.Need-say_bytes-requires
say-bytes-requires-2 c κs = search rules

returns : tie.Need-returns
unfolding report_answer
returns c =
    let told = c in
    let said = told in
    let front = extended_more _ _ _ said.say_bytes-p.ensures told.say_part-p.ensures in
    answer-page_of _ said.take_blank.ensures
    (extended_more _ _ _ front c.say_bytes.ensures)
    (length-report_answer _ _ _)

pub answer_report_spec : {M : Type 1} → statement M
answer_report_spec =
    tie.close
    (tie.spec
    take-blank-requires
    say-bytes-requires
    say-part-requires
    say-bytes-requires-2
    returns)
