-- Each answer has its line, and a record that is not there has none. Assumes nothing.
use Rattle.std.proofs.Common.{sym, ap, ◌∙◌}
use Rattle.rules.proofs.ReaderLaws.{seen_known}
use Rattle.text.specs.Extended.{extended}
use Rattle.text.proofs.LinesLaws.{line_text-refused, line_text-missing, line_text_record}
use Rattle.text.proofs.lines.say_seen.Goals as goal

pub returns-in-Err : goal.returns-in-Err
returns-in-Err c =
    record { said = c.say_fault.ensures.said ∙ ap (extended _) (sym (line_text-refused _ _ _ c.in-Err.is)) }

pub returns-in-Ok-None : goal.returns-in-Ok-None
unfolding extended
returns-in-Ok-None c =
    let seen = seen_known c.in-Ok-None.is (rw c.in-Ok-None.is at c.in-Ok-None.field-0-is) in
    record { said = sym (ap (extended c.args.p) (line_text-missing c.args.i c.args.kind seen)) }

pub returns-in-Ok-Some : goal.returns-in-Ok-Some
returns-in-Ok-Some c =
    let seen = seen_known c.in-Ok-Some.is (rw c.in-Ok-Some.is at c.in-Ok-Some.field-0-is) in
    record { said = c.say_record.ensures.said ∙ ap (extended _) (sym (line_text_record _ _ _ seen)) }
