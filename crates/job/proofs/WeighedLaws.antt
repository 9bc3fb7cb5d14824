-- A product is weighed in coarse units and a rest, which together are the product, and whose sums fit 64 bits.
-- Assumes nothing.
use Prim.Native.Nat.{ℕ, ◌+◌, ◌*◌, ◌/◌, ◌%◌, ◌<◌, ◌≤◌}
use mathlib.Core.List.{List}
use mathlib.Core.Path.{◌≡◌, sym, ap, ◌∙◌, subst}
use native.Mathlib.Nat.{mul-add, add-mul, mul-le-mul, mul_right_comm, div-add-mod'}
use native.Mathlib.Omega.{arith}
use lib.ListN.{length, get_or, length-set}
use Rattle.choice.proofs.Splitting.{if_eq}
use Rattle.job.specs.State.{◌to◌, mass, ledgers, ch4, n2o}
use Rattle.job.specs.Words.{unit_at}
use Rattle.job.specs.Shares.{coarse, raised, weighed, sum_at}
use Rattle.job.proofs.PlacesLaws.{to_other, to_le, to_at, to_past, get_d_raised}

-- ---- x × y more at place i
parts_product : (x y : ℕ) → coarse * (x / coarse * y) + x % coarse * y ≡ x * y
parts_product x y =
    let all = ap (λ (v : ℕ). v * y) (div-add-mod' x coarse) in
    omega (arith, add-mul (x / coarse * coarse) (x % coarse) y, mul_right_comm (x / coarse) coarse y)

to_parts : (x y i j : ℕ)
    → coarse * mass ((x / coarse * y) to i) j + mass ((x % coarse * y) to i) j ≡ mass ((x * y) to i) j
to_parts x y i j =
    if_eq j i
    (λ e.
    let both = parts_product x y in
    omega (arith, to_at (x / coarse * y) i j e, to_at (x % coarse * y) i j e, to_at (x * y) i j e))
    (λ n. omega (arith, to_other (x / coarse * y) i j n, to_other (x % coarse * y) i j n, to_other (x * y) i j n))

module _ (s : List ℕ) (i x y : ℕ) (l : i < ledgers) (whole : length s ≡ 8) where
  abbrev units : List ℕ
  units = raised s i (x / coarse * y)

  units-whole : length units ≡ 8
  units-whole = length-set s i _ ∙ whole

  pub length-weighed : length (weighed s i x y) ≡ 8
  unfolding weighed
  length-weighed = length-set units (ledgers + i) _ ∙ units-whole

  pub units-weighed : (j : ℕ) → j < ledgers → get_or (weighed s i x y) j 0 ≡ get_or s j 0 + mass ((x / coarse * y) to i) j
  unfolding weighed
  units-weighed j m =
      let none = to_other (x % coarse * y) (ledgers + i) j (λ e. omega arith) in
      get_d_raised units (ledgers + i) (x % coarse * y) j (omega (arith, units-whole))
      ∙ omega (arith, get_d_raised s i (x / coarse * y) j (omega arith))

  pub rest-weighed : (j : ℕ) → j < ledgers
      → get_or (weighed s i x y) (ledgers + j) 0 ≡ get_or s (ledgers + j) 0 + mass ((x % coarse * y) to i) j
  unfolding weighed
  rest-weighed j m =
      let none = to_other (x / coarse * y) i (ledgers + j) (λ e. omega arith) in
      let past = to_past ledgers (x % coarse * y) i j in
      get_d_raised units (ledgers + i) (x % coarse * y) (ledgers + j) (omega (arith, units-whole))
      ∙ omega (arith, get_d_raised s i (x / coarse * y) (ledgers + j) (omega arith))

  pub sum_at-weighed : (j : ℕ) → j < ledgers → sum_at (weighed s i x y) j ≡ sum_at s j + unit_at j * mass ((x * y) to i) j
  unfolding sum_at
  sum_at-weighed j m =
      let t = weighed s i x y in
      let before = coarse * get_or s j 0 + get_or s (ledgers + j) 0 in
      let parts : coarse * get_or t j 0 + get_or t (ledgers + j) 0 ≡ before + mass ((x * y) to i) j
      = omega (arith, units-weighed j m, rest-weighed j m, to_parts x y i j) in
      ap (λ (v : ℕ). unit_at j * v) parts ∙ mul-add (unit_at j) before (mass ((x * y) to i) j)

-- ---- sums that stay below a bound
pub record Under (u r : ℕ) (s : List ℕ) : Type 0 where
  pub whole : length s ≡ 8
  pub units_le : (i : ℕ) → i < ledgers → get_or s i 0 ≤ u
  pub rest_le : (i : ℕ) → i < ledgers → get_or s (ledgers + i) 0 ≤ r

-- What is asked of `weigh`.
abbrev pub Room : List ℕ → ℕ → ℕ → ℕ → Type 0
Room s i x y =
    (i < ledgers)
    × ((get_or s i 0 + x / coarse * y < 18446744073709551616)
    × (get_or s (ledgers + i) 0 + x % coarse * y < 18446744073709551616))

pub room_as : {s t : List ℕ} {i j x z : ℕ} (y : ℕ) → s ≡ t → i ≡ j → x ≡ z → Room t j z y → Room s i x y
room_as {s} {t} {i} {j} {x} {z} y p q r h =
    subst (λ (v : List ℕ). Room v i x y) (sym p)
    (subst (λ (k : ℕ). Room t k x y) (sym q) (subst (λ (v : ℕ). Room t j v y) (sym r) h))

abbrev pub rest_most : ℕ
rest_most = coarse * 200000

pub rest_product : (x y : ℕ) → y ≤ 200000 → x % coarse * y ≤ rest_most
rest_product x y l = mul-le-mul {n₂ = coarse} (omega arith) l

module _ {u r : ℕ} (s : List ℕ) (i x y a : ℕ)
    (l : i < ledgers) (y-le : y ≤ 200000) (most : x / coarse * y ≤ a) (under : Under u r s) where
  pub room_under : u + a < 18446744073709551616 → r + rest_most < 18446744073709551616 → Room s i x y
  room_under p q = (l, (omega (arith, under.units_le i l), omega (arith, under.rest_le i l, rest_product x y y-le)))

  pub under_weighed : Under (u + a) (r + rest_most) (weighed s i x y)
  under_weighed = record {
    whole = length-weighed s i x y l under.whole;
    units_le = λ j m.
        let sum = units-weighed s i x y l under.whole j m in
        omega (arith, under.units_le j m, to_le (x / coarse * y) i j);
    rest_le = λ j m.
        let sum = rest-weighed s i x y l under.whole j m in
        omega (arith, under.rest_le j m, to_le (x % coarse * y) i j, rest_product x y y-le);
  }

-- At any place the CO2 or one other mass alone.
pub spread : (p j a b c e most : ℕ) → p < ch4 → a + b ≤ most → c ≤ most → e ≤ most
    → mass (a to p) j + mass (b to p) j + mass (c to ch4) j + mass (e to n2o) j ≤ most
spread p j a b c e most l ab-le c-le e-le =
    let none : ch4 ≤ j → mass (a to p) j + mass (b to p) j ≡ 0
    = λ m. omega (arith, to_other a p j (λ q. omega arith), to_other b p j (λ q. omega arith)) in
    if_eq j ch4
    (λ at.
    let no_co2 = none (omega arith) in
    omega (arith, to_le c ch4 j, to_other e n2o j (λ q. omega arith)))
    (λ not-ch4. if_eq j n2o
    (λ at.
    let no_co2 = none (omega arith) in
    omega (arith, to_other c ch4 j not-ch4, to_le e n2o j))
    (λ not-n2o. omega (arith, to_le a p j, to_le b p j, to_other c ch4 j not-ch4, to_other e n2o j not-n2o)))
