-- No volume is below the most that there is. Assumes nothing.
use Rattle.std.proofs.Common.{◌≡◌, ℕ, eqb, leb, sym, refl, ◌∙◌, arith, eq-eqb, ne_eqb, le-leb}
use Rattle.choice.specs.Tests.{◌also◌, ◌either◌}
use Rattle.choice.proofs.Splitting.{if_eq}
use Rattle.choice.proofs.TestsLaws.{both, any, also_t, either_t, either_f}
use Rattle.rules.specs.Book.{molar_volume_ok}
use Rattle.rules.proofs.listing.is_molar_volume_right.Statement.{statement}
use Rattle.rules.proofs.listing.is_molar_volume_right.Tie as tie

limited : (v : ℕ) → ((eqb v 0 either leb 20000 v) also leb v 27000) ≡ (eqb v 0 either (leb 20000 v also leb v 27000))
limited v =
    if_eq v 0
    (λ z.
    let none = eq-eqb v 0 z in
    also_t (either_t _ none) (le-leb v 27000 (omega arith)) ∙ sym (either_t _ none))
    (λ z.
    let some = ne_eqb v 0 z in
    (λ i. either_f {b = leb 20000 v} some refl i also leb v 27000)
    ∙ sym (either_f {b = leb 20000 v also leb v 27000} some refl))

returns : tie.Need-returns
unfolding molar_volume_ok
returns c = both (any refl refl) refl ∙ limited c.args.volume

pub is_molar_volume_right_spec : {M : Type 1} → statement M
is_molar_volume_right_spec = tie.close (tie.spec returns)
