-- The list of methods, one case at a time, and which is the last. Assumes nothing.
use Rattle.std.proofs.Common.{◌≡◌, ℕ, ◌≤◌, true, false, eqb, ltb, List, refl, le_trans, le_of_eq, lit≤}
use Rattle.choice.specs.Tests.{◌either◌, choose}
use Rattle.choice.proofs.Splitting.{if_test}
use Rattle.choice.proofs.TestsLaws.{either_t, choose_t, choose_f, if_choose}
use Rattle.rules.specs.Fields.{monitored, fuel_class, default_heat, analysed, heat_measured, carbon_measured}
use Rattle.rules.specs.Method.{small, method_of}

module _ (l u f : List ℕ) where
  pub method_of-monitored : monitored u ≡ true → method_of l u f ≡ 4
  unfolding method_of
  method_of-monitored m = choose_t _ m refl

  pub method_of-carbon : monitored u ≡ false → carbon_measured l ≡ true → method_of l u f ≡ 3
  unfolding method_of
  method_of-carbon m c = choose_f _ m (choose_t _ c refl)

  -- Analysed gas is never without a method.
  pub method_of-analysed : monitored u ≡ false → analysed l ≡ true → method_of l u f ≡ 3
  method_of-analysed m a = method_of-carbon m (either_t _ a)

  pub method_of-heat : monitored u ≡ false → carbon_measured l ≡ false → heat_measured l ≡ true →
      method_of l u f ≡ choose (small u either eqb (fuel_class f) 1 either eqb (fuel_class f) 2) 2 0
  unfolding method_of
  method_of-heat m c h = choose_f _ m (choose_f _ c (choose_t _ h refl))

  pub method_of_default : monitored u ≡ false → carbon_measured l ≡ false → heat_measured l ≡ false →
      method_of l u f ≡ choose (ltb 0 (default_heat f)) (choose (small u) 1 0) 0
  unfolding method_of
  method_of_default m c h = choose_f _ m (choose_f _ c (choose_f _ h refl))

  -- The methods end with 2 where no carbon was measured, with 3 where there is no monitor, and with 4.
  pub method_of-heat-le : monitored u ≡ false → carbon_measured l ≡ false → method_of l u f ≤ 2
  method_of-heat-le m c =
      if_test (heat_measured l)
      (λ h. le_trans (le_of_eq (method_of-heat m c h)) (if_choose Few _ (λ p. lit≤ tt) (λ p. lit≤ tt)))
      (λ h. le_trans (le_of_eq (method_of_default m c h))
      (if_choose Few (ltb 0 (default_heat f))
      (λ d. if_choose Few (small u) (λ p. lit≤ tt) (λ p. lit≤ tt))
      (λ d. lit≤ tt)))
    where
      Few : ℕ → Type 0
      Few x = x ≤ 2

  pub method_of_unmonitored_le : monitored u ≡ false → method_of l u f ≤ 3
  method_of_unmonitored_le m =
      if_test (carbon_measured l)
      (λ c. le_of_eq (method_of-carbon m c))
      (λ c. le_trans (method_of-heat-le m c) (lit≤ tt))

  pub method_of-le : method_of l u f ≤ 4
  method_of-le =
      if_test (monitored u)
      (λ m. le_of_eq (method_of-monitored m))
      (λ m. le_trans (method_of_unmonitored_le m) (lit≤ tt))
