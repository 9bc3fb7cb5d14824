-- The masks of an index say of each of eight flags what the rules say: that there is a heat in use, that a low
-- value is a measured one of natural gas, and that there is a method. These are 256 cases, and each is worked out.
-- Assumes nothing.
use Rattle.std.proofs.Common.{◌≡◌, ℕ, zero, suc, ◌+◌, ◌*◌, ◌/◌, ◌%◌, ◌^◌, ◌<◌, ◌≤◌, Bool, true, false, cond, not, ◌&&◌, ◌||◌, eqb, ltb, leb, List, get_or, sym, refl, ap, ◌∙◌, subst, le_trans, le_of_eq, not-suc-le-zero, arith, ltb-true, eq-eqb, leb-true}
use mathlib.Core.Bool.{false≢true, and-eq-true_iff}
use lib.Bits.{bit_and}
use Rattle.choice.specs.Tests.{◌either◌, choose}
use Rattle.choice.proofs.Splitting.{if_test, if_eq}
use Rattle.choice.proofs.TestsLaws.{also_l, also_r, both, any, choose_t, choose_f, choose-true, choose-false}
use Rattle.rules.specs.Fields.{monitored, fuel_class, default_heat, flags, analysed, heat_measured, heat_low}
use Rattle.rules.specs.Method.{small, method_of}
use Rattle.rules.specs.Index.{column_of, allowed_flags, large_flags}
use Rattle.rules.specs.Sorting.{heat_limits}
use Rattle.rules.specs.AtOnce.{allowed_by}

-- ---- tests that compute
choose_cond : (b : Bool) (x y : ℕ) → choose b x y ≡ cond b x y
choose_cond true x y = choose-true x y
choose_cond false x y = choose-false x y

either_or : (a b : Bool) → (a either b) ≡ (a || b)
either_or a b = sym (any refl refl)

-- A test passes both ways, and below n.
every : (Bool → Bool) → Bool
every p = p true && p false

up_to : ℕ → (ℕ → Bool) → Bool
up_to zero p = true
up_to (suc n) p = p n && up_to n p

every_at : (p : Bool → Bool) → every p ≡ true → (b : Bool) → p b ≡ true
unfolding every
every_at p h true = ((and-eq-true_iff (p true) (p false)).0 h).0
every_at p h false = ((and-eq-true_iff (p true) (p false)).0 h).1

up_to_at : (n : ℕ) (p : ℕ → Bool) → up_to n p ≡ true → (x : ℕ) → x < n → p x ≡ true
unfolding up_to
up_to_at zero p h x l = absurd (not-suc-le-zero l)
up_to_at (suc n) p h x l =
    let split = (and-eq-true_iff (p n) (up_to n p)).0 h in
    if_eq x n
    (λ same. subst (λ (k : ℕ). p k ≡ true) (sym same) split.0)
    (λ other. up_to_at n p split.1 x (omega arith))

implied : (a b : Bool) → (not a || b) ≡ true → a ≡ true → b ≡ true
implied true b h p = h
implied false b h p = absurd (false≢true p)

-- ---- the cases, by the unit's monitor m and smallness s, the fuel's being class 1 (g) or class 2 (o) and having
-- a default d, and the flags x
by_masks : Bool → Bool → Bool → Bool → Bool → ℕ → Bool
by_masks m s g o d x =
    let heats = 10 + cond d 5 0 + cond g 160 0 in
    eqb (cond m heats (cond s heats (bit_and heats (cond (g || o) 238 204))) / 2 ^ (x % 32) % 2) 1

method : Bool → Bool → Bool → Bool → Bool → ℕ → ℕ
method m s g o d x =
    cond m 4
    (cond (eqb (x / 2 % 2) 1) 3
    (cond (eqb (x % 2) 1) (cond (s || g || o) 2 0) (cond d (cond s 1 0) 0)))

by_rules : Bool → Bool → Bool → Bool → Bool → ℕ → Bool
by_rules m s g o d x =
    (eqb (x % 2) 1 || d)
    && (eqb (x % 2) 1 || not (eqb (x / 4 % 2) 1))
    && (g || not (eqb (x / 4 % 2) 1))
    && ltb 0 (method m s g o d x)

right : Bool → Bool → Bool → Bool → Bool → ℕ → Bool
right m s g o d x = not (by_masks m s g o d x) || by_rules m s g o d x

worked : up_to 8 (λ x. every (λ m. every (λ s. every (λ g. every (λ o. every (λ d. right m s g o d x)))))) ≡ true
unfolding up_to every right by_masks by_rules method
worked = refl

by_masks_by_rules : (m s g o d : Bool) (x : ℕ) → x < 8 → by_masks m s g o d x ≡ true → by_rules m s g o d x ≡ true
unfolding right
by_masks_by_rules m s g o d x l =
    let all = up_to_at 8 _ worked x l in
    implied _ _ (every_at _ (every_at _ (every_at _ (every_at _ (every_at _ all m) s) g) o) d)

-- ---- what the masks of a record say
-- The flags of the fuel f that count in the unit u, and where they stand in an index.
abbrev pub flags_in : List ℕ → List ℕ → ℕ
flags_in u f = choose (monitored u) (allowed_flags f) (choose (small u) (allowed_flags f) (large_flags f))

pub flags_in_at : (u f t : List ℕ) (k : ℕ) → get_or t (64 + k) 0 ≡ large_flags f → get_or t (128 + k) 0 ≡ allowed_flags f
    → get_or t (column_of u % 256 + k) 0 ≡ flags_in u f
unfolding column_of
flags_in_at u f t k large allowed =
    let at : ℕ → ℕ = λ o. get_or t (o % 256 + k) 0 in
    if_test (monitored u)
    (λ m. ap at (choose_t _ m refl) ∙ allowed ∙ sym (choose_t _ m refl))
    (λ m. if_test (small u)
    (λ s. ap at (choose_f _ m (choose_t _ s refl)) ∙ allowed ∙ sym (choose_f _ m (choose_t _ s refl)))
    (λ s. ap at (choose_f _ m (choose_f _ s refl)) ∙ large ∙ sym (choose_f _ m (choose_f _ s refl))))

pub record Heated (l f : List ℕ) : Type 0 where
  pub in_use : (heat_measured l either ltb 0 (default_heat f)) ≡ true
  pub low_measured : (heat_measured l either not (heat_low l)) ≡ true
  pub low_gas : (eqb (fuel_class f) 1 either not (heat_low l)) ≡ true

module _ (l f : List ℕ) (few : flags l ≤ 7) where
  abbrev by_masks_of : Bool → Bool → Bool
  by_masks_of m s = by_masks m s (eqb (fuel_class f) 1) (eqb (fuel_class f) 2) (ltb 0 (default_heat f)) (flags l)

  abbrev method_by : Bool → Bool → ℕ
  method_by m s = method m s (eqb (fuel_class f) 1) (eqb (fuel_class f) 2) (ltb 0 (default_heat f)) (flags l)

  told : (m s : Bool) → by_masks_of m s ≡ true → Heated l f × (ltb 0 (method_by m s) ≡ true)
  unfolding by_rules
  told m s h =
      let rules = by_masks_by_rules m s _ _ _ (flags l) (omega arith) h in
      let row = sym (both (both (both (any refl refl) (any refl refl)) (any refl refl)) refl) ∙ rules in
      let heats = also_l _ _ row in (
        record {
          in_use = also_l _ _ (also_l _ _ heats);
          low_measured = also_r _ _ (also_l _ _ heats);
          low_gas = also_r _ _ heats;
        },
        also_r _ _ row,
      )

  -- Any unit permits it.
  gas_masks : by_masks_of true true ≡ allowed_by l (allowed_flags f)
  unfolding allowed_by allowed_flags by_masks
  gas_masks = sym (simp choose_cond)

  pub allowed_by_gas : allowed_by l (allowed_flags f) ≡ true → Heated l f
  allowed_by_gas h = (told true true (gas_masks ∙ h)).0

  masks : (u : List ℕ) → allowed_by l (flags_in u f) ≡ by_masks_of (monitored u) (small u)
  unfolding allowed_by large_flags allowed_flags by_masks
  masks u = simp (choose_cond, either_or)

  methods : (u : List ℕ) → analysed l ≡ false → method_of l u f ≡ method_by (monitored u) (small u)
  unfolding method_of method
  methods u other = simp (choose_cond, either_or, other)

  pub allowed_by-fuel : (u : List ℕ) → analysed l ≡ false
      → allowed_by l (flags_in u f) ≡ true → Heated l f × (0 < method_of l u f)
  allowed_by-fuel u other h =
      let all = told (monitored u) (small u) (sym (masks u) ∙ h) in
      (all.0, le_trans (ltb-true 0 _ all.1) (le_of_eq (sym (methods u other))))

-- ---- the most heat by the flags
limited : ℕ → Bool
limited x =
    leb (get_or heat_limits x 0) (200000 * (x % 2)) && (not (eqb (x / 4 % 2) 1) || leb (get_or heat_limits x 0) 180000)

all_limited : up_to 8 limited ≡ true
unfolding up_to limited
all_limited = refl

pub heat_limits_at : (x : ℕ) → x < 8
    → (get_or heat_limits x 0 ≤ 200000 * (x % 2)) × (x / 4 % 2 ≡ 1 → get_or heat_limits x 0 ≤ 180000)
unfolding limited
heat_limits_at x l =
    let both_ways = (and-eq-true_iff _ _).0 (up_to_at 8 limited all_limited x l) in
    (leb-true _ _ both_ways.0, λ low. leb-true _ _ (implied _ _ both_ways.1 (eq-eqb _ _ low)))
