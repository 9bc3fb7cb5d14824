-- `nearest_to` is nearest with a half going to the even number, and nothing else is.
-- Assumes nothing.
use Prim.Native.Nat.{ℕ, ◌+◌, ◌*◌, ◌/◌, ◌%◌, ◌<◌, ◌≤◌}
use mathlib.Core.Path.{◌≡◌, sym, ap, ◌∙◌, subst}
use native.Mathlib.Nat.{one-mul, add-mul, mod-lt, div-add-mod', mul-le-mul_right, eq_of_mul-eq-mul_right, le_antisymm}
use native.Mathlib.Omega.{arith}
use Rattle.choice.proofs.Splitting.{if_lt, if_eq}
use Rattle.mass.specs.Rounding.{nearest_to, Nearest}
use Rattle.mass.proofs.RoundingLaws.{nearest_to-below, nearest_to-above, nearest_to-half, nearest_to_cases}

next : (q d : ℕ) → (q + 1) * d ≡ q * d + d
next q d = add-mul q 1 d ∙ ap (λ (x : ℕ). q * d + x) (one-mul d)

module _ (n d : ℕ) (D : 0 < d) where
  -- Where the remainder is at most a half, the quotient q is nearest, and from a half on q + 1 is.
  stays : 2 * (n % d) ≤ d → (2 * (n % d) ≡ d → n / d % 2 ≡ 0) → Nearest n d (n / d)
  stays h even = record {
    not_below = omega (arith, div-add-mod' n d);
    not_above = omega (arith, div-add-mod' n d);
    even_below = λ e. even (omega (arith, div-add-mod' n d));
    even_above = λ e. absurd (omega (arith, div-add-mod' n d));
  }

  moves : d ≤ 2 * (n % d) → (2 * (n % d) ≡ d → (n / d + 1) % 2 ≡ 0) → Nearest n d (n / d + 1)
  moves h even = record {
    not_below = omega (arith, div-add-mod' n d, next (n / d) d, mod-lt n D);
    not_above = omega (arith, div-add-mod' n d, next (n / d) d);
    even_below = λ e. absurd (omega (arith, div-add-mod' n d, next (n / d) d, mod-lt n D));
    even_above = λ e. even (omega (arith, div-add-mod' n d, next (n / d) d));
  }

  tie : 2 * (n % d) ≡ d → Nearest n d (n / d + n / d % 2)
  tie e = if_eq (n / d % 2) 0
      (λ z. subst (Nearest n d) (omega arith) (stays (omega arith) (λ h. z)))
      (λ k. subst (Nearest n d) (omega arith) (moves (omega arith) (λ h. omega arith)))

  pub nearest_nearest_to : Nearest n d (nearest_to n d)
  nearest_nearest_to = nearest_to_cases n d
      (λ h. by (nearest_to-below n d h) (stays (omega arith) (λ e. absurd (omega arith))))
      (λ h. by (nearest_to-above n d h) (moves (omega arith) (λ e. absurd (omega arith))))
      (λ h. by (nearest_to-half n d h) (tie h))
    where
      by : {r : ℕ} → nearest_to n d ≡ r → Nearest n d r → Nearest n d (nearest_to n d)
      by e = subst (Nearest n d) (sym e)

  -- Of two, the larger would be the next number, and both would be even.
  not_less : (r s : ℕ) → Nearest n d r → Nearest n d s → s ≤ r
  not_less r s a b = if_lt r s (λ l. absurd (both l)) (λ h. h)
    where
      both : r < s → ⊥
      both l =
          let step : (r + 1) * d ≤ s * d = mul-le-mul_right d (omega arith) in
          let next-r = next r d in
          let low = a.not_below in
          let high = b.not_above in
          let one : r + 1 ≡ s = eq_of_mul-eq-mul_right d D (r + 1) s (omega arith) in
          omega (arith, a.even_below (omega arith), b.even_above (omega arith))

  pub nearest_unique : (r s : ℕ) → Nearest n d r → Nearest n d s → r ≡ s
  nearest_unique r s a b = le_antisymm (not_less s r b a) (not_less r s a b)
