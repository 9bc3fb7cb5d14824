-- A fuel record is of one of two kinds, so that it is neither an hour nor anodes. Assumes nothing.
use Rattle.std.proofs.Common.{◌≡◌, ℕ, true, eqb, List, sym, refl, ◌∙◌, arith, eqb-true}
use Rattle.choice.proofs.Splitting.{if_test}
use Rattle.choice.proofs.TestsLaws.{either_f}
use Rattle.rules.specs.Fields.{kind, fuelled}

module _ (l : List ℕ) (fuel : fuelled l ≡ true) where
  -- Any statement on a fuel record is proved of either kind.
  if_fuelled : {G : Type 0} → (kind l ≡ 1 → G) → (kind l ≡ 3 → G) → G
  if_fuelled burned analysed =
      if_test (eqb (kind l) 1)
      (λ t. burned (eqb-true _ _ t))
      (λ f. analysed (eqb-true _ _ (sym (either_f f refl) ∙ fuel)))

  pub fuelled-not-hour : kind l ≡ 2 → ⊥
  fuelled-not-hour h = if_fuelled (λ e. omega arith) (λ e. omega arith)

  pub fuelled-not_anodes : kind l ≡ 4 → ⊥
  fuelled-not_anodes h = if_fuelled (λ e. omega arith) (λ e. omega arith)
