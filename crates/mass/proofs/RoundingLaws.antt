-- `nearest_to` case by case, of a fraction and of a mixed number; it depends on the fraction alone and grows
-- with it. Assumes nothing.
use Prim.Native.Nat.{ℕ, ◌+◌, ◌*◌, ◌/◌, ◌%◌, ◌<◌, ◌≤◌, compare, Ordering}
use mathlib.Core.Bool.{not}
use mathlib.Core.Path.{◌≡◌, refl, sym, ap, ◌∙◌, subst}
use native.Mathlib.Nat.{not-le_of_lt, le_of_eq, le_of_lt, div-eq_of_lt, mod-eq_of_lt, mul-pos, mul_assoc, mul-add, add-mul, mul-add-div_right, mul-add-mod_self_right, div-add-mod', mod-lt, mul-le-mul_left, lt_of_mul-lt-mul_right}
use native.Mathlib.Numerals.{add-one}
use native.Mathlib.Omega.{arith}
use lib.Dec.{T, is_le, compare_is_eq, eqb, eqb_refl, eqb→eq, leb→le, nleb→lt}
use lib.Ieee.{nearest}
use lib.Ieee.Nearest.{closest, closest_same, closest_mono}
use borrow.Author.Tests.{lt-ltb, le-ltb}
use Rattle.choice.proofs.TestsLaws.{choose_t, choose_f}
use Rattle.choice.proofs.Splitting.{if_lt}
use Rattle.mass.specs.Rounding.{nearest_to}

-- ---- the three cases
module _ (n d : ℕ) where
  pub nearest_to-below : 2 * (n % d) < d → nearest_to n d ≡ n / d
  unfolding nearest_to
  nearest_to-below h = choose_t _ (lt-ltb (2 * (n % d)) d h) refl

  pub nearest_to-above : d < 2 * (n % d) → nearest_to n d ≡ n / d + 1
  unfolding nearest_to
  nearest_to-above h =
      choose_f _ (le-ltb (2 * (n % d)) d (le_of_lt h)) (choose_t _ (lt-ltb d (2 * (n % d)) h) refl)

  pub nearest_to-half : 2 * (n % d) ≡ d → nearest_to n d ≡ n / d + n / d % 2
  unfolding nearest_to
  nearest_to-half h =
      choose_f _ (le-ltb (2 * (n % d)) d (le_of_eq (sym h)))
      (choose_f _ (le-ltb d (2 * (n % d)) (le_of_eq h)) refl)

  -- Any statement on the rounded number is proved case by case.
  pub nearest_to_cases : {G : Type 0} → (2 * (n % d) < d → G) → (d < 2 * (n % d) → G) → (2 * (n % d) ≡ d → G)
      → G
  nearest_to_cases below above half =
      if_lt (2 * (n % d)) d below (λ h. if_lt d (2 * (n % d)) above (λ k. half (omega arith)))

pub nearest_to-zero : (n d : ℕ) → 2 * n < d → nearest_to n d ≡ 0
nearest_to-zero n d h =
    let l : n < d = omega arith in
    nearest_to-below n d (subst (λ (m : ℕ). 2 * m < d) (sym (mod-eq_of_lt l)) h) ∙ div-eq_of_lt l

-- ---- a mixed number: q, and r / d below 1
module _ (q r d : ℕ) (proper : r < d) where
  D : 0 < d
  D = omega arith

  div_mixed : (q * d + r) / d ≡ q
  div_mixed = mul-add-div_right D q r ∙ omega (arith, div-eq_of_lt proper)

  mod_mixed : (q * d + r) % d ≡ r
  mod_mixed = mul-add-mod_self_right q d r ∙ mod-eq_of_lt proper

  nearest_to_mixed_below : 2 * r < d → nearest_to (q * d + r) d ≡ q
  nearest_to_mixed_below h = nearest_to-below (q * d + r) d (omega (arith, mod_mixed)) ∙ div_mixed

  nearest_to_mixed_above : d < 2 * r → nearest_to (q * d + r) d ≡ q + 1
  nearest_to_mixed_above h =
      nearest_to-above (q * d + r) d (omega (arith, mod_mixed)) ∙ ap (λ (x : ℕ). x + 1) div_mixed

  nearest_to_mixed_half : 2 * r ≡ d → nearest_to (q * d + r) d ≡ q + q % 2
  nearest_to_mixed_half h =
      nearest_to-half (q * d + r) d (omega (arith, mod_mixed)) ∙ ap (λ (x : ℕ). x + x % 2) div_mixed

  -- Both tests at once: at just half an odd q goes up.
  pub nearest_to_mixed_up : d < 2 * r + q % 2 → nearest_to (q * d + r) d ≡ q + 1
  nearest_to_mixed_up h = if_lt d (2 * r) nearest_to_mixed_above (λ k. nearest_to_mixed_half (omega arith) ∙ omega arith)

  pub nearest_to_mixed_down : 2 * r + q % 2 ≤ d → nearest_to (q * d + r) d ≡ q
  nearest_to_mixed_down h = if_lt (2 * r) d nearest_to_mixed_below (λ k. nearest_to_mixed_half (omega arith) ∙ omega arith)

-- A product of a as a mixed number: b / d times a, and what is left of b.
pub product_mixed : (a b d : ℕ) → (a * (b / d) + a * (b % d) / d) * d + a * (b % d) % d ≡ a * b
product_mixed a b d =
    let left = a * (b % d) in
    let parts : (a * (b / d) + left / d) * d ≡ a * (b / d * d) + left / d * d =
    add-mul (a * (b / d)) (left / d) d ∙ ap (λ (x : ℕ). x + left / d * d) (mul_assoc a (b / d) d) in
    let whole : a * (b / d * d) + left ≡ a * b =
    sym (mul-add a (b / d * d) (b % d)) ∙ ap (λ (x : ℕ). a * x) (div-add-mod' b d) in
    omega (arith, div-add-mod' left d)

-- Neither part of it passes its bound.
pub product_left_lt : (a b d : ℕ) {m : ℕ} → 0 < d → a * d < m → a * (b % d) < m
product_left_lt a b d D h = omega (arith, mul-le-mul_left a (le_of_lt (mod-lt b D)), h)

pub product_whole-lt : (a b d : ℕ) {m : ℕ} → a * b < m * d → a * (b / d) + a * (b % d) / d < m
product_whole-lt a b d h = lt_of_mul-lt-mul_right d (omega (arith, product_mixed a b d, h))

-- ---- equal and larger fractions, by the kit's `closest`
module _ (a b : ℕ) where
  is_lt : a < b → compare a b ≡ Ordering.lt
  is_lt h = go (compare a b) (nleb→lt a b) (eqb→eq a b)
    where
      go : (o : Ordering) → (T (not (is_le o)) → b < a) → (T (compare_is_eq o) → a ≡ b) → o ≡ Ordering.lt
      go Ordering.lt g e = refl
      go Ordering.eq g e = absurd (not-le_of_lt h (le_of_eq (sym (e tt))))
      go Ordering.gt g e = absurd (not-le_of_lt h (le_of_lt (g tt)))

  is_gt : b < a → compare a b ≡ Ordering.gt
  is_gt h = go (compare a b) (leb→le a b)
    where
      go : (o : Ordering) → (T (is_le o) → a ≤ b) → o ≡ Ordering.gt
      go Ordering.lt l = absurd (not-le_of_lt h (l tt))
      go Ordering.eq l = absurd (not-le_of_lt h (l tt))
      go Ordering.gt l = refl

  is_eq : a ≡ b → compare a b ≡ Ordering.eq
  is_eq h = go (compare a b) (subst (λ (x : ℕ). T (eqb a x)) h (eqb_refl a))
    where
      go : (o : Ordering) → T (compare_is_eq o) → o ≡ Ordering.eq
      go Ordering.lt t = absurd t
      go Ordering.eq t = refl
      go Ordering.gt t = absurd t

nearest_to_closest : (n d : ℕ) → nearest_to n d ≡ closest n d
nearest_to_closest n d = nearest_to_cases n d
    (λ l. nearest_to-below n d l ∙ by Ordering.lt (is_lt (n % d * 2) d (omega arith)))
    (λ g. nearest_to-above n d g ∙ add-one (n / d) ∙ by Ordering.gt (is_gt (n % d * 2) d (omega arith)))
    (λ e. nearest_to-half n d e ∙ by Ordering.eq (is_eq (n % d * 2) d (omega arith)))
  where
    by : (o : Ordering) → compare (n % d * 2) d ≡ o → nearest (n / d) o ≡ closest n d
    by o h = ap (λ (k : Ordering). nearest (n / d) k) (sym h)

pub nearest_to-same : (a b c d : ℕ) → 0 < b → 0 < d → a * d ≡ c * b → nearest_to a b ≡ nearest_to c d
nearest_to-same a b c d B D e =
    nearest_to_closest a b
    ∙ closest_same a b c d B D e
    ∙ sym (nearest_to_closest c d)

-- A common factor goes out of both parts of the fraction.
pub nearest_to_scaled : (k n w d : ℕ) → 0 < w → 0 < d → nearest_to (k * (n * w)) (w * d) ≡ nearest_to (k * n) d
nearest_to_scaled k n w d W D = nearest_to-same (k * (n * w)) (w * d) (k * n) d (mul-pos W D) D (simp mul_assoc)

pub nearest_to_mono : (a b c d : ℕ) → 0 < b → 0 < d → a * d ≤ c * b → nearest_to a b ≤ nearest_to c d
nearest_to_mono a b c d B D h = rw (nearest_to_closest a b, nearest_to_closest c d) (closest_mono a b c d B D h)
