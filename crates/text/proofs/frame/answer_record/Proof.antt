-- What is told stands one behind the other, and zeros where nothing is told. Assumes nothing.
use mathlib.Core.Path.{ap, ◌∙◌}
use borrow.Author.Rules.{rules}
use Rattle.text.specs.declared.frame.Told.{Told}
use Rattle.text.specs.Page.{page_of}
use Rattle.text.specs.Frame.{told_bytes, record_answer}
use Rattle.text.proofs.PageLaws.{extended_more}
use Rattle.text.proofs.FrameLaws.{length-told_bytes, answer-page_of}
use Rattle.text.proofs.frame.answer_record.Statement.{statement}
use Rattle.text.proofs.frame.answer_record.Tie as tie

tell-requires : tie.Need-tell-t-requires
tell-requires c κs = search rules

take-blank-requires : tie.Need-take_blank-requires
take-blank-requires c κs = search rules

say-bytes-requires : tie.Need-say_bytes-p-requires
say-bytes-requires c κs = search rules

say-bytes-requires-2 : tie.Need-say_bytes-p-requires-2
say-bytes-requires-2 c κs = search rules

say-bytes-requires-3 : tie.Need-say_bytes-p-requires-3
say-bytes-requires-3 c κs = search rules

say-bytes-requires-4 : tie.Need-say_bytes-p-requires-4
say-bytes-requires-4 c κs = search rules

say-bytes-requires-5 : tie.Need-say_bytes-p-requires-5
say-bytes-requires-5 c κs = search rules

say-bytes-requires-6 : tie.Need-say_bytes-p-requires-6
say-bytes-requires-6 c κs = search rules

say-bytes-requires-7 : tie.Need-say_bytes-p-requires-7
say-bytes-requires-7 c κs = search rules

say-bytes-requires-8 : tie.Need-say_bytes-p-requires-8
say-bytes-requires-8 c κs = search rules

say-bytes-requires-9 : tie.Need-say_bytes-requires
say-bytes-requires-9 c κs = search rules

returns : tie.Need-returns
unfolding told_bytes record_answer
returns c =
    let n2o = c in
    let ch4 = n2o in
    let co2 = ch4 in
    let gap = co2 in
    let ledger = gap in
    let method = ledger in
    let reason = method in
    let number = reason in
    let page = number in
    let told = page in
    let why = extended_more _ _ _ number.say_bytes-p.ensures reason.say_bytes-p-2.ensures in
    let how = extended_more _ _ _ why method.say_bytes-p-3.ensures in
    let front = extended_more _ _ _ (extended_more _ _ _ how ledger.say_bytes-p-4.ensures) gap.say_bytes-p-5.ensures in
    let co2-said = extended_more _ _ _ front co2.say_bytes-p-6.ensures in
    let masses = extended_more _ _ _ (extended_more _ _ _ co2-said ch4.say_bytes-p-7.ensures) n2o.say_bytes-p-8.ensures in
    answer-page_of _ page.take_blank.ensures
    (extended_more _ _ _ masses c.say_bytes.ensures)
    (length-told_bytes told.tell-t.result)
    ∙ ap (λ (t : Told). page_of (told_bytes t)) told.tell-t.ensures

pub answer_record_spec : {M : Type 1} → statement M
answer_record_spec =
    tie.close
    (tie.spec
    tell-requires
    take-blank-requires
    say-bytes-requires
    say-bytes-requires-2
    say-bytes-requires-3
    say-bytes-requires-4
    say-bytes-requires-5
    say-bytes-requires-6
    say-bytes-requires-7
    say-bytes-requires-8
    say-bytes-requires-9
    returns)
