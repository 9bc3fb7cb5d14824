-- The word goes on a blank page, and zeros behind it. Assumes nothing.
use borrow.Author.Rules.{rules}
use Rattle.text.specs.Frame.{call_answer}
use Rattle.text.proofs.PageLaws.{extended_more}
use Rattle.text.proofs.FrameLaws.{length-call_answer, answer-page_of}
use Rattle.text.proofs.frame.answer_call.Statement.{statement}
use Rattle.text.proofs.frame.answer_call.Tie as tie

take-blank-requires : tie.Need-take_blank-requires
take-blank-requires c κs = search rules

say-bytes-requires : tie.Need-say_bytes-p-requires
say-bytes-requires c κs = search rules

say-bytes-requires-2 : tie.Need-say_bytes-requires
say-bytes-requires-2 c κs = search rules

returns : tie.Need-returns
unfolding call_answer
returns c =
    let said = c in
    answer-page_of _ said.take_blank.ensures
    (extended_more _ _ _ said.say_bytes-p.ensures c.say_bytes.ensures)
    (length-call_answer _)

pub answer_call_spec : {M : Type 1} → statement M
answer_call_spec =
    tie.close (tie.spec take-blank-requires say-bytes-requires say-bytes-requires-2 returns)
