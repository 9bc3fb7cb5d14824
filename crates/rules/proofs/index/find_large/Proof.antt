-- The fuel's class decides. Assumes nothing.
use Rattle.std.proofs.Common.{◌≡◌, ℕ, ◌||◌, eqb, sym, refl, ap₂, rules}
use lib.Bits.{bit_and}
use Rattle.choice.specs.Tests.{◌either◌}
use Rattle.choice.proofs.TestsLaws.{choose_t, choose_f, is, any}
use Rattle.rules.specs.Index.{large_flags}
use Rattle.rules.proofs.index.find_large.Statement.{statement}
use Rattle.rules.proofs.index.find_large.Tie as tie

refined : {r n : ℕ} → r ≡ n → (eqb r 1 || eqb r 2) ≡ (eqb n 1 either eqb n 2)
refined e = any (λ i. eqb (e i) 1) (λ i. eqb (e i) 2)

returns : tie.Need-returns-then-class
unfolding large_flags
returns c =
    let class = c.fuel_class-class.ensures in
    ap₂ bit_and c.find_allowed.ensures (sym (choose_t _ (is (refined class) c.if-class.true) refl))

returns-2 : tie.Need-returns
unfolding large_flags
returns-2 c =
    let class = c.fuel_class-class.ensures in
    ap₂ bit_and c.find_allowed-2.ensures (sym (choose_f _ (is (refined class) c.if-class.false) refl))

pub find_large_spec : {M : Type 1} → statement M
find_large_spec =
    tie.close (tie.spec (λ c κs. search rules) (λ c κs. search rules) returns (λ c κs. search rules) returns-2)
