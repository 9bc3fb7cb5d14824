-- A high digit takes whole digits, and the low one the rest in two steps: together they are the sum. Assumes nothing.
use Prim.Native.Nat.{ℕ, ◌+◌, ◌-◌, ◌*◌, ◌/◌, ◌%◌, ◌<◌, ◌≤◌}
use mathlib.Core.List.{List}
use mathlib.Core.Path.{◌≡◌, refl, sym, ap, ◌∙◌, subst}
use native.Mathlib.Nat.{mul-add}
use native.Mathlib.Omega.{arith}
use lib.ListN.{length, get_or, length-set}
use Rattle.choice.proofs.Splitting.{if_eq}
use Rattle.job.specs.State.{◌to◌, mass, ledgers}
use Rattle.job.specs.Words.{carries, full, low_at, high_at, unit_at, mass_at, added, Kept}
use Rattle.job.specs.Shares.{coarse, units_each, rest_each, full_units, pour_each, pour_most, raised, sum_at, poured, Summed}
use Rattle.job.proofs.PlacesLaws.{to_here, to_at, to_other, to_le, to_past, get_d_raised}
use Rattle.job.proofs.WordsLaws.{Room, room, kept-added, kept_more, mass_at-added}

-- ---- q more in the high digit at place i
module _ {m : ℕ} (w : List ℕ) (i q : ℕ) (l : i < ledgers) (kept : Kept m w) where
  abbrev higher : List ℕ
  higher = raised w (ledgers + i) q

  place_lt : ledgers + i < length w
  place_lt = let whole = kept.whole in omega arith

  low_same : (j : ℕ) → j < ledgers → low_at higher j ≡ low_at w j
  low_same j p = omega (arith, get_d_raised w (ledgers + i) q j place_lt, to_other q (ledgers + i) j (λ e. omega arith))

  high_more : (j : ℕ) → high_at higher j ≡ high_at w j + mass (q to i) j
  high_more j = omega (arith, get_d_raised w (ledgers + i) q (ledgers + j) place_lt, to_past ledgers q i j)

  kept-raised : Kept (m + q) higher
  kept-raised = record {
    whole = length-set w (ledgers + i) _ ∙ kept.whole;
    low = λ j p. omega (arith, low_same j p, kept.low j p);
    few = λ j p. omega (arith, high_more j, kept.few j p, to_le q i j);
  }

  mass_at-raised : (j : ℕ) → j < ledgers → mass_at higher j ≡ mass_at w j + unit_at j * (full * mass (q to i) j)
  unfolding mass_at
  mass_at-raised j p =
      let digits : full * high_at higher j + low_at higher j ≡ full * high_at w j + low_at w j + full * mass (q to i) j
      = omega (arith, low_same j p, high_more j) in
      ap (λ (v : ℕ). unit_at j * v) digits ∙ mul-add (unit_at j) (full * high_at w j + low_at w j) (full * mass (q to i) j)

-- ---- a sum more at place i
module _ {m : ℕ} (w : List ℕ) (i units rest : ℕ) (l : i < ledgers) (kept : Kept m w)
    (units_le : units ≤ 64 * units_each) (rest_le : rest ≤ 64 * rest_each) where
  abbrev quotient : ℕ
  quotient = units / full_units

  abbrev remainder : ℕ
  remainder = units % full_units * coarse

  abbrev once : List ℕ
  once = raised w (ledgers + i) quotient

  abbrev twice : List ℕ
  twice = added once i remainder

  kept_once : Kept (m + quotient) once
  kept_once = kept-raised w i quotient l kept

  remainder_lt : remainder < full
  remainder_lt = omega arith

  rest_lt : rest < full
  rest_lt = omega arith

  kept_twice : Kept (m + quotient + 1) twice
  kept_twice = kept-added once i remainder l kept_once remainder_lt

  kept-poured : Kept (m + pour_each) (poured w i units rest)
  unfolding poured
  kept-poured = kept_more (poured w i units rest) (omega arith) (kept-added twice i rest l kept_twice rest_lt)

  module _ (m-le : m ≤ carries - pour_each) where
    pub room_once : Room once i remainder
    room_once = room once i remainder l kept_once (omega arith) remainder_lt

    pub room_twice : Room twice i rest
    room_twice = room twice i rest l kept_twice (omega arith) rest_lt

  pub mass_at-poured : (j : ℕ) → j < ledgers
      → mass_at (poured w i units rest) j ≡ mass_at w j + mass ((unit_at i * (coarse * units + rest)) to i) j
  unfolding poured
  mass_at-poured j p =
      let high = mass_at-raised w i quotient l kept j p in
      let low = mass_at-added once i remainder l kept_once remainder_lt j p in
      let last = mass_at-added twice i rest l kept_twice rest_lt j p in
      if_eq j i
      (λ e.
      let unit = ap (λ (k : ℕ). unit_at k * (full * mass (quotient to i) k)) e in
      let here = ap (λ (v : ℕ). unit_at i * (full * v)) (to_here quotient i) in
      let digits : full * quotient + remainder + rest ≡ coarse * units + rest = omega arith in
      let all = ap (λ (v : ℕ). unit_at i * v) digits in
      omega (
        arith,
        mul-add (unit_at i) (full * quotient + remainder) rest,
        mul-add (unit_at i) (full * quotient) remainder,
        to_at (unit_at i * remainder) i j e,
        to_at (unit_at i * rest) i j e,
        to_at (unit_at i * (coarse * units + rest)) i j e,
      ))
      (λ n.
      let none = ap (λ (v : ℕ). unit_at j * (full * v)) (to_other quotient i j n) in
      omega (
        arith,
        to_other (unit_at i * remainder) i j n,
        to_other (unit_at i * rest) i j n,
        to_other (unit_at i * (coarse * units + rest)) i j n,
      ))

-- ---- the first i sums, from the words v on
pub record Pouring (s v w : List ℕ) (i : ℕ) : Type 0 where
  pub kept : (m : ℕ) → Kept m v → Kept (m + pour_each * i) w
  pub done : (j : ℕ) → j < i → mass_at w j ≡ mass_at v j + sum_at s j
  pub left : (j : ℕ) → j < ledgers → i ≤ j → mass_at w j ≡ mass_at v j

pub pouring_none : (s v : List ℕ) → Pouring s v v 0
pouring_none s v = record {
  kept = λ m k. kept_more v (omega arith) k;
  done = λ j l. absurd (omega arith);
  left = λ j l n. refl;
}

pub pouring_kept : {s v w : List ℕ} {i : ℕ} → i < ledgers → Kept (carries - pour_most) v → Pouring s v w i
    → Kept (carries - pour_each) w
pouring_kept {w = w} l kept p = kept_more w (omega arith) (p.kept (carries - pour_most) kept)

pub pouring_next : {t : List ℕ} (s v w : List ℕ) (i : ℕ) → i < ledgers → Summed 64 s → Kept (carries - pour_most) v
    → t ≡ poured w i (get_or s i 0) (get_or s (ledgers + i) 0) → Pouring s v w i → Pouring s v t (i + 1)
unfolding sum_at
pouring_next s v w i l summed kept t-is p =
    let units_le : get_or s i 0 ≤ 64 * units_each = omega (arith, summed.units_le i l) in
    let rest_le : get_or s (ledgers + i) 0 ≤ 64 * rest_each = omega (arith, summed.rest_le i l) in
    let next = mass_at-poured w i (get_or s i 0) (get_or s (ledgers + i) 0) l (pouring_kept l kept p) units_le rest_le in
    subst (λ (t : List ℕ). Pouring s v t (i + 1)) (sym t-is) (record {
      kept = λ m k.
          let more = kept-poured w i (get_or s i 0) (get_or s (ledgers + i) 0) l (p.kept m k) units_le rest_le in
          kept_more _ (omega arith) more;
      done = λ j m. if_eq j i
          (λ e. next j (omega arith)
          ∙ (λ z. p.left j (omega arith) (omega arith) z + (to_at (sum_at s i) i j e ∙ ap (sum_at s) (sym e)) z))
          (λ n. omega (arith, next j (omega arith), to_other (sum_at s i) i j n, p.done j (omega arith)));
      left = λ j m n. omega (arith, next j m, to_other (sum_at s i) i j (λ e. omega arith), p.left j m (omega arith));
    })
