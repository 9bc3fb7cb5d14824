-- The most that a record adds to a word bounds the words of a leg, and what a fuel's words come to in heat.
-- Assumes nothing.
use Prim.Native.Nat.{ℕ, ◌+◌, ◌*◌, ◌%◌, ◌<◌, ◌≤◌}
use mathlib.Core.List.{List}
use mathlib.Core.Path.{◌≡◌, refl, sym, ◌∙◌, subst}
use native.Mathlib.Nat.{mul-le-mul, add-zero}
use native.Mathlib.Omega.{arith}
use lib.Dec.{lit<}
use lib.ListN.{get_or}
use borrow.Author.Tests.{lt-ltb, le-ltb}
use Rattle.choice.proofs.Splitting.{if_lt, if_eq}
use Rattle.choice.proofs.TestsLaws.{choose_t, choose_f}
use Rattle.rules.specs.Sorting.{most_burned}
use Rattle.rules.proofs.FactorsLaws.{most_burned_odd, most_burned_even}
use Rattle.job.specs.Shares.{leg_records, counted_in, other_in, most_in, Held}

-- ---- the most that a record adds
pub most_in_burned : (v : ℕ) → v < 8 → most_in v ≡ most_burned v
unfolding most_in
most_in_burned v l = choose_t _ (lt-ltb v 8 l) refl

pub most_in-carbon : (v : ℕ) → 8 ≤ v → most_in v ≡ 400000000000000
unfolding most_in
most_in-carbon v l = choose_f _ (le-ltb v 8 l) refl

pub most_burned_way : (v w : ℕ) → v % 2 ≡ w % 2 → most_burned v ≡ most_burned w
most_burned_way v w e =
    if_eq (w % 2) 1
    (λ odd. most_burned_odd v (e ∙ odd) ∙ sym (most_burned_odd w odd))
    (λ not-odd. let even : w % 2 ≡ 0 = omega arith in most_burned_even v (e ∙ even) ∙ sym (most_burned_even w even))

most_burned-le : (v : ℕ) → most_burned v ≤ 20000000000000
most_burned-le v =
    if_eq (v % 2) 1
    (λ odd. omega (arith, most_burned_odd v odd))
    (λ not-odd. omega (arith, most_burned_even v (omega arith)))

pub most_in-le : (v : ℕ) → most_in v ≤ 400000000000000
most_in-le v =
    if_lt v 8 (λ l. omega (arith, most_in_burned v l, most_burned-le v)) (λ l. omega (arith, most_in-carbon v l))

-- ---- how large the words of a fuel get
module _ (d : List ℕ) (k : ℕ) (k_lt : k < 64) (held : Held leg_records d) where
  word-le : (v m : ℕ) → v < 16 → most_in v ≡ m → get_or d (16 * k + v) 0 ≤ m * leg_records
  word-le v m l e = subst (λ (y : ℕ). get_or d (16 * k + v) 0 ≤ y * leg_records) e (held.few k v k_lt l)

  pub odd_le : (v : ℕ) → v < 8 → v % 2 ≡ 1 → get_or d (16 * k + v) 0 ≤ 20000000000000 * leg_records
  odd_le v l e = word-le v 20000000000000 (omega arith) (most_in_burned v l ∙ most_burned_odd v e)

  pub even_le : (v : ℕ) → v < 8 → v % 2 ≡ 0 → get_or d (16 * k + v) 0 ≤ 100000000 * leg_records
  even_le v l e = word-le v 100000000 (omega arith) (most_in_burned v l ∙ most_burned_even v e)

  pub carbon_le : get_or d (16 * k + 8) 0 ≤ 400000000000000 * leg_records
  carbon_le = word-le 8 400000000000000 (lit< tt) (most_in-carbon 8 (omega arith))

  module _ (heat : ℕ) (heat_le : heat ≤ 200000) where
    pub counted_product : heat * get_or d (16 * k) 0 ≤ 20000000000000 * leg_records
    counted_product =
        let first = even_le 0 (lit< tt) refl in
        mul-le-mul heat_le (subst (λ (p : ℕ). get_or d p 0 ≤ 100000000 * leg_records) (add-zero (16 * k)) first)

    pub other_product :
        heat * (get_or d (16 * k + 2) 0 + get_or d (16 * k + 4) 0 + get_or d (16 * k + 6) 0) ≤ 60000000000000 * leg_records
    other_product =
        let two = even_le 2 (lit< tt) refl in
        let four = even_le 4 (lit< tt) refl in
        let six = even_le 6 (lit< tt) refl in
        mul-le-mul {m₂ = 300000000 * leg_records} heat_le (omega arith)

    pub counted_in-le : counted_in heat d k ≤ 40000000000000 * leg_records
    unfolding counted_in
    counted_in-le = omega (arith, counted_product, odd_le 1 (lit< tt) refl)

    pub other_in-le : other_in heat d k ≤ 120000000000000 * leg_records
    unfolding other_in
    other_in-le = omega (arith, other_product, odd_le 3 (lit< tt) refl, odd_le 5 (lit< tt) refl, odd_le 7 (lit< tt) refl)
