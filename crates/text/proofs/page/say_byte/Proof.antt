-- A byte goes on if there is room. Assumes nothing.
use mathlib.Core.Path.{refl, sym}
use borrow.Author.Rules.{rules}
use borrow.Author.Tests.{lt-ltb, le-ltb}
use Rattle.choice.proofs.TestsLaws.{choose_t, choose_f}
use Rattle.text.specs.Extended.{with_byte}
use Rattle.text.proofs.page.say_byte.Statement.{statement}
use Rattle.text.proofs.page.say_byte.Tie as tie

element-write-next : tie.Need-bounds-next-at
element-write-next c = search rules

add-next : tie.Need-overflow_add-next
add-next c = search rules

returns : tie.Need-returns-then-at-lt-SIZE
unfolding with_byte
returns c = sym (choose_t _ (lt-ltb _ _ c.if-at-lt-SIZE.true) refl)

returns-2 : tie.Need-returns
unfolding with_byte
returns-2 c = sym (choose_f _ (le-ltb _ _ c.if-at-lt-SIZE.false) refl)

pub say_byte_spec : {M : Type 1} → statement M
say_byte_spec = tie.close (tie.spec element-write-next add-next returns returns-2)
