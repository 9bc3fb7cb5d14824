-- Class 1 goes with kind 3, 2 with 2 and 3 with 1: the two come to 4. Assumes nothing.
use Rattle.std.proofs.Common.{◌≡◌, ℕ, ◌+◌, ◌≤◌, eqb, sym, refl, ap, ◌∙◌, arith, rules, eq-eqb, ne_eqb, leb-true}
use Rattle.choice.specs.Tests.{◌also◌, ◌either◌}
use Rattle.choice.proofs.Splitting.{if_eq}
use Rattle.choice.proofs.TestsLaws.{both, any, also_l, also_r, also_same, also_pass, also_fail, either_fail}
use Rattle.rules.specs.Book.{kind_class_ok}
use Rattle.rules.proofs.listing.do_agree.Statement.{statement}
use Rattle.rules.proofs.listing.do_agree.Tie as tie

module _ (k c : ℕ) where
  -- Of a kind, the class that goes with it.
  classed : (x : ℕ) → k + x ≡ 4 → eqb (k + c) 4 ≡ eqb c x
  classed x sum =
      if_eq c x
      (λ e. eq-eqb (k + c) 4 (omega arith) ∙ sym (eq-eqb c x e))
      (λ e. ne_eqb (k + c) 4 (λ s. e (omega arith)) ∙ sym (ne_eqb c x e))

  coming-to-four : 1 ≤ k → k ≤ 3 → (eqb c 0 either eqb (k + c) 4)
      ≡ (eqb c 0 either (eqb c 1 also eqb k 3) either (eqb c 2 also eqb k 2) either (eqb c 3 also eqb k 1))
  coming-to-four some few =
      if_eq k 3
      (λ gas.
      ap (◌either◌ (eqb c 0)) (classed 1 (omega arith) ∙ sym (also_pass (eqb c 1) (eq-eqb k 3 gas)))
      ∙ sym (either_fail _ (also_fail (eqb c 2) (ne_eqb k 2 (λ e. omega arith))))
      ∙ sym (either_fail _ (also_fail (eqb c 3) (ne_eqb k 1 (λ e. omega arith)))))
      (λ no-gas.
      let first = sym (either_fail (eqb c 0) (also_fail (eqb c 1) (ne_eqb k 3 no-gas))) in
      if_eq k 2
      (λ oil.
      (λ i. first i either (classed 2 (omega arith) ∙ sym (also_pass (eqb c 2) (eq-eqb k 2 oil))) i)
      ∙ sym (either_fail _ (also_fail (eqb c 3) (ne_eqb k 1 (λ e. omega arith)))))
      (λ no-oil.
      let second = first ∙ sym (either_fail _ (also_fail (eqb c 2) (ne_eqb k 2 no-oil))) in
      λ i. second i either (classed 3 (omega arith) ∙ sym (also_pass (eqb c 3) (eq-eqb k 1 (omega arith)))) i))

returns : tie.Need-returns
unfolding kind_class_ok
returns c =
    both (both refl refl) (any refl refl)
    ∙ also_same _ (λ known.
    coming-to-four c.args.kind c.args.class (leb-true _ _ (also_l _ _ known)) (leb-true _ _ (also_r _ _ known)))

pub do_agree_spec : {M : Type 1} → statement M
do_agree_spec = tie.close (tie.spec (λ c. search rules) returns)
