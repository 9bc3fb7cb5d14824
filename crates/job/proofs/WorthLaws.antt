-- What a unit of each word of a fuel is worth, and what its 16 words come to at each ledger. Assumes nothing.
use Prim.Native.Nat.{ℕ, zero, suc, ◌+◌, ◌*◌, ◌%◌, ◌<◌, ◌≤◌}
use mathlib.Core.List.{List}
use mathlib.Core.Path.{◌≡◌, refl, sym, ap, ◌∙◌, subst}
use native.Mathlib.Nat.{mul-add, add-mul, mul-zero, mul_assoc, mul_comm, mul_left_comm, not-suc-le-zero, add-zero, mul-one}
use native.Mathlib.Omega.{arith}
use lib.Dec.{eqb, lit<}
use lib.ListN.{get_or}
use borrow.Author.Tests.{lt-ltb, le-ltb, eq-eqb, ne_eqb}
use Rattle.choice.proofs.Splitting.{if_lt, if_eq}
use Rattle.choice.proofs.TestsLaws.{choose_t, choose_f}
use Rattle.rules.specs.Fields.{ch4_factor, n2o_factor}
use Rattle.rules.specs.Factors.{factors_of}
use Rattle.rules.specs.Sorting.{heat_of, co2_of}
use Rattle.rules.proofs.FactorsLaws.{co2_of_other, factors_of_parts, heat_of_odd, heat_of_even, co2_of-heat}
use Rattle.job.specs.State.{ledgers, ch4, n2o, sum_to}
use Rattle.job.specs.Shares.{co2_ledger, worth_of, fuel_shares, counted_in, other_in}

-- ---- sums that differ at one place
pub sum_to-same : (f g : ℕ → ℕ) (n : ℕ) → ((j : ℕ) → j < n → g j ≡ f j) → sum_to g n ≡ sum_to f n
unfolding sum_to
sum_to-same f g zero same = refl
sum_to-same f g (suc n) same = omega (arith, sum_to-same f g n (λ j l. same j (omega arith)), same n (omega arith))

pub sum_to_more : (f g : ℕ → ℕ) (n i x : ℕ) → i < n → ((j : ℕ) → (j ≡ i → ⊥) → g j ≡ f j) → g i ≡ f i + x
    → sum_to g n ≡ sum_to f n + x
unfolding sum_to
sum_to_more f g zero i x l other here = absurd (not-suc-le-zero l)
sum_to_more f g (suc n) i x l other here =
    if_lt i n
    (λ m. omega (arith, sum_to_more f g n i x m other here, other n (λ e. omega arith)))
    (λ m.
    let last : i ≡ n = omega arith in
    let now-here = subst (λ (j : ℕ). g j ≡ f j + x) last here in
    omega (arith, sum_to-same f g n (λ j p. other j (λ e. omega arith))))

pub sum_to-none : (f : ℕ → ℕ) (n : ℕ) → ((j : ℕ) → f j ≡ 0) → sum_to f n ≡ 0
unfolding sum_to
sum_to-none f zero none = refl
sum_to-none f (suc n) none = omega (arith, sum_to-none f n none, none n)

-- ---- what a unit of a word is worth
pub worth_of-ch4 : (f : List ℕ) (v : ℕ) → v < 8 → worth_of f v ch4 ≡ ch4_factor f * heat_of f v
unfolding worth_of
worth_of-ch4 f v l = choose_t _ refl (choose_t _ (lt-ltb v 8 l) refl)

pub worth_of-n2o : (f : List ℕ) (v : ℕ) → v < 8 → worth_of f v n2o ≡ n2o_factor f * heat_of f v
unfolding worth_of
worth_of-n2o f v l = choose_f _ refl (choose_t _ refl (choose_t _ (lt-ltb v 8 l) refl))

pub worth_of-ch4-none : (f : List ℕ) (v : ℕ) → 8 ≤ v → worth_of f v ch4 ≡ 0
unfolding worth_of
worth_of-ch4-none f v l = choose_t _ refl (choose_f _ (le-ltb v 8 l) refl)

pub worth_of-n2o-none : (f : List ℕ) (v : ℕ) → 8 ≤ v → worth_of f v n2o ≡ 0
unfolding worth_of
worth_of-n2o-none f v l = choose_f _ refl (choose_t _ refl (choose_f _ (le-ltb v 8 l) refl))

module _ (f : List ℕ) (v i : ℕ) (co2 : i < ch4) where
  not-ch4 : eqb i ch4 ≡ eqb 0 1
  not-ch4 = ne_eqb i ch4 (λ e. omega arith)

  not-n2o : eqb i n2o ≡ eqb 0 1
  not-n2o = ne_eqb i n2o (λ e. omega arith)

  pub worth_of_elsewhere : (i ≡ co2_ledger f → ⊥) → worth_of f v i ≡ 0
  unfolding worth_of
  worth_of_elsewhere n = choose_f _ not-ch4 (choose_f _ not-n2o (choose_f _ (ne_eqb i (co2_ledger f) n) refl))

  module _ (e : i ≡ co2_ledger f) where
    pub worth_of-heat : v < 8 → worth_of f v i ≡ 1000 * co2_of f v
    unfolding worth_of
    worth_of-heat l =
        choose_f _ not-ch4 (choose_f _ not-n2o (choose_t _ (eq-eqb i (co2_ledger f) e)
        (ap (λ (y : ℕ). 1000 * y) (choose_t _ (lt-ltb v 8 l) refl))))

    pub worth_of-carbon : v ≡ 8 → worth_of f v i ≡ 1000 * 3664
    unfolding worth_of
    worth_of-carbon at =
        choose_f _ not-ch4 (choose_f _ not-n2o (choose_t _ (eq-eqb i (co2_ledger f) e)
        (ap (λ (y : ℕ). 1000 * y) (choose_f _ (le-ltb v 8 (omega arith)) (choose_t _ (eq-eqb v 8 at) refl)))))

    pub worth_of_past : 8 < v → worth_of f v i ≡ 0
    unfolding worth_of
    worth_of_past l =
        choose_f _ not-ch4 (choose_f _ not-n2o (choose_t _ (eq-eqb i (co2_ledger f) e)
        (ap (λ (y : ℕ). 1000 * y)
        (choose_f _ (le-ltb v 8 (omega arith)) (choose_f _ (ne_eqb v 8 (λ at. omega arith)) refl)))))

-- Ways in which no CO2 comes from the heat.
pub worth_of-monitor : (f : List ℕ) (v i : ℕ) → i < ch4 → 2 ≤ v → (v ≡ 8 → ⊥) → worth_of f v i ≡ 0
worth_of-monitor f v i co2 l n =
    if_eq i (co2_ledger f)
    (λ e. if_lt v 8
    (λ m. worth_of-heat f v i co2 e m ∙ ap (λ (y : ℕ). 1000 * y) (co2_of_other f v l))
    (λ m. worth_of_past f v i co2 e (omega arith)))
    (λ e. worth_of_elsewhere f v i co2 e)

-- ---- a ledger is one of CO2, or that of another gas
pub by_ledger : (P : ℕ → Type 0) (i : ℕ) → i < ledgers → (i < ch4 → P i) → P ch4 → P n2o → P i
by_ledger P i l co2 by_ch4 by_n2o =
    if_lt i ch4 co2
    (λ m. if_eq i ch4
    (λ e. subst P (sym e) by_ch4)
    (λ n. let last : n2o ≡ i = omega arith in subst P last by_n2o))

-- ---- what the words of a fuel come to
sum_to-words : (g : ℕ → ℕ) → sum_to g 16
    ≡ g 0 + g 1 + g 2 + g 3 + g 4 + g 5 + g 6 + g 7 + (g 8 + g 9 + g 10 + g 11 + g 12 + g 13 + g 14 + g 15)
unfolding sum_to
sum_to-words g = omega arith

module _ (n w : ℕ → ℕ) (y h : ℕ) where
  even_word : (v : ℕ) → w v ≡ y * h → n v * w v ≡ h * n v * y
  even_word v e =
      ap (λ (u : ℕ). n v * u) e
      ∙ mul_left_comm (n v) y h
      ∙ mul_comm y (n v * h)
      ∙ ap (λ (u : ℕ). u * y) (mul_comm (n v) h)

  odd_word : (v : ℕ) → w v ≡ y → n v * w v ≡ n v * y
  odd_word v e = ap (λ (u : ℕ). n v * u) e

  no_word : (v : ℕ) → w v ≡ 0 → n v * w v ≡ 0
  no_word v e = ap (λ (u : ℕ). n v * u) e ∙ mul-zero (n v)

  module _ (none : (v : ℕ) → 8 < v → w v ≡ 0) where
    past_words : n 9 * w 9 + n 10 * w 10 + n 11 * w 11 + n 12 * w 12 + n 13 * w 13 + n 14 * w 14 + n 15 * w 15 ≡ 0
    past_words =
        omega (
          arith,
          no_word 9 (none 9 (lit< tt)),
          no_word 10 (none 10 (lit< tt)),
          no_word 11 (none 11 (lit< tt)),
          no_word 12 (none 12 (lit< tt)),
          no_word 13 (none 13 (lit< tt)),
          no_word 14 (none 14 (lit< tt)),
          no_word 15 (none 15 (lit< tt)),
        )

    -- Each way counts, and carbon doesn't.
    sum_to_trace : ((v : ℕ) → v < 8 → v % 2 ≡ 0 → w v ≡ y * h) → ((v : ℕ) → v < 8 → v % 2 ≡ 1 → w v ≡ y) → w 8 ≡ 0
        → sum_to (λ v. n v * w v) 16 ≡ (n 1 + h * n 0 + (n 3 + n 5 + n 7 + h * (n 2 + n 4 + n 6))) * y
    sum_to_trace even odd no_carbon =
        let e0 = even_word 0 (even 0 (lit< tt) refl) in
        let e2 = even_word 2 (even 2 (lit< tt) refl) in
        let e4 = even_word 4 (even 4 (lit< tt) refl) in
        let e6 = even_word 6 (even 6 (lit< tt) refl) in
        let o1 = odd_word 1 (odd 1 (lit< tt) refl) in
        let o3 = odd_word 3 (odd 3 (lit< tt) refl) in
        let o5 = odd_word 5 (odd 5 (lit< tt) refl) in
        let o7 = odd_word 7 (odd 7 (lit< tt) refl) in
        let c = no_word 8 no_carbon in
        sum_to-words (λ v. n v * w v) ∙ simp (mul-add, add-mul) (omega (arith, past_words))

    -- The ways 0 and 1 count, and carbon.
    sum_to_co2 : w 0 ≡ y * h → w 1 ≡ y → ((v : ℕ) → 2 ≤ v → v < 8 → w v ≡ 0) → w 8 ≡ 3664000
        → sum_to (λ v. n v * w v) 16 ≡ (n 1 + h * n 0) * y + n 8 * 3664000
    sum_to_co2 first second other carbon =
        let e0 = even_word 0 first in
        let o1 = odd_word 1 second in
        let c = ap (λ (u : ℕ). n 8 * u) carbon in
        sum_to-words (λ v. n v * w v)
        ∙ simp add-mul
        (omega (
          arith,
          no_word 2 (other 2 (omega arith) (lit< tt)),
          no_word 3 (other 3 (omega arith) (lit< tt)),
          no_word 4 (other 4 (omega arith) (lit< tt)),
          no_word 5 (other 5 (omega arith) (lit< tt)),
          no_word 6 (other 6 (omega arith) (lit< tt)),
          no_word 7 (other 7 (omega arith) (lit< tt)),
          past_words,
        ))

module _ (f d : List ℕ) (k : ℕ) where
  abbrev heat : ℕ
  heat = (factors_of f).heat

  worth_even : (v y : ℕ) → v % 2 ≡ 0 → y * heat_of f v ≡ y * heat
  worth_even v y e = ap (λ (h : ℕ). y * h) (heat_of_even f v e ∙ sym (factors_of_parts f).0)

  worth_odd : (v y : ℕ) → v % 2 ≡ 1 → y * heat_of f v ≡ y
  worth_odd v y e = ap (λ (h : ℕ). y * h) (heat_of_odd f v e) ∙ mul-one y

  first_word : get_or d (16 * k + 0) 0 ≡ get_or d (16 * k) 0
  first_word = ap (λ (p : ℕ). get_or d p 0) (add-zero (16 * k))

  pub fuel_shares_trace : (i y : ℕ)
      → ((v : ℕ) → v < 8 → worth_of f v i ≡ y * heat_of f v)
      → ((v : ℕ) → 8 ≤ v → worth_of f v i ≡ 0)
      → fuel_shares f d k i ≡ (counted_in heat d k + other_in heat d k) * y
  unfolding fuel_shares counted_in other_in
  fuel_shares_trace i y worth none =
      sum_to_trace (λ v. get_or d (16 * k + v) 0) (λ v. worth_of f v i) y heat
      (λ v l. none v (omega arith))
      (λ v l e. worth v l ∙ worth_even v y e)
      (λ v l e. worth v l ∙ worth_odd v y e)
      (none 8 (omega arith))
      ∙ ap (λ (w : ℕ). (get_or d (16 * k + 1) 0 + heat * w + other_in heat d k) * y) first_word

  pub fuel_shares_elsewhere : (i : ℕ) → i < ch4 → (i ≡ co2_ledger f → ⊥) → fuel_shares f d k i ≡ 0
  unfolding fuel_shares
  fuel_shares_elsewhere i l n =
      sum_to-none _ 16 (λ v. ap (λ (u : ℕ). get_or d (16 * k + v) 0 * u) (worth_of_elsewhere f v i l n) ∙ mul-zero _)

  module _ (i : ℕ) (l : i < ch4) (e : i ≡ co2_ledger f) where
    by_heat : (v : ℕ) → v < 2 → worth_of f v i ≡ 1000 * (factors_of f).co2 * heat_of f v
    by_heat v m =
        worth_of-heat f v i l e (omega arith)
        ∙ ap (λ (u : ℕ). 1000 * u) (co2_of-heat f v m ∙ ap (λ (u : ℕ). u * heat_of f v) (sym (factors_of_parts f).1))
        ∙ sym (mul_assoc 1000 (factors_of f).co2 (heat_of f v))

    abbrev carbon : ℕ
    carbon = get_or d (16 * k + 8) 0

    pub fuel_shares_co2 : fuel_shares f d k i ≡ 1000 * (counted_in heat d k * (factors_of f).co2 + carbon * 3664)
    unfolding fuel_shares counted_in
    fuel_shares_co2 =
        sum_to_co2 (λ v. get_or d (16 * k + v) 0) (λ v. worth_of f v i) (1000 * (factors_of f).co2) heat
        (λ v m. worth_of_past f v i l e m)
        (by_heat 0 (lit< tt) ∙ worth_even 0 _ refl)
        (by_heat 1 (lit< tt) ∙ worth_odd 1 _ refl)
        (λ v m n. worth_of-heat f v i l e n ∙ ap (λ (u : ℕ). 1000 * u) (co2_of_other f v m))
        (worth_of-carbon f 8 i l e refl)
        ∙ ap (λ (w : ℕ). (get_or d (16 * k + 1) 0 + heat * w) * (1000 * (factors_of f).co2) + carbon * 3664000) first_word
        ∙ omega (arith, mul_left_comm (counted_in heat d k) 1000 (factors_of f).co2)
