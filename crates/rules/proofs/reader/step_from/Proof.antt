-- Each branch's test says which side `place_after` takes, and a place below a slice's length has one
-- after it. Assumes nothing.
use Rattle.std.proofs.Common.{sym, refl, rules, le-ltb, lt-ltb}
use Rattle.choice.proofs.TestsLaws.{choose_t, choose_f}
use Rattle.rules.specs.Reader.{place_after}
use Rattle.rules.proofs.reader.step_from.Statement.{statement}
use Rattle.rules.proofs.reader.step_from.Tie as tie

add-result : tie.Need-overflow_add-result
add-result c = search rules

returns : tie.Need-returns-then-i-book
unfolding place_after
returns c = sym (choose_t _ (lt-ltb _ _ c.if-i-book.true) refl)

returns-2 : tie.Need-returns
unfolding place_after
returns-2 c = sym (choose_f _ (le-ltb _ _ c.if-i-book.false) refl)

pub step_from_spec : {M : Type 1} → statement M
step_from_spec = tie.close (tie.spec add-result returns returns-2)
