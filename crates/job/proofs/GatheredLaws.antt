-- A fuel line gives the sums what its words come to, way by way, and so little of it that 64 lines fit 64 bits.
-- Assumes nothing.
use Prim.Native.Nat.{ℕ, ◌+◌, ◌*◌, ◌/◌, ◌%◌, ◌<◌, ◌≤◌}
use mathlib.Core.Bool.{Bool, true, false}
use mathlib.Core.List.{List}
use mathlib.Core.Path.{◌≡◌, refl, sym, ap, ◌∙◌, subst}
use native.Mathlib.Nat.{mul-add, mul-zero, mul-le-mul, one-mul}
use native.Mathlib.Omega.{arith}
use lib.Dec.{lit<}
use lib.ListN.{get_or}
use Rattle.choice.proofs.Splitting.{if_eq}
use Rattle.choice.proofs.TestsLaws.{choose_t, choose_f}
use Rattle.rules.specs.declared.factors.Factors.{Factors}
use Rattle.rules.specs.Factors.{factors_of}
use Rattle.rules.specs.Sorting.{heat_of}
use Rattle.rules.proofs.FactorsLaws.{factors_of_parts}
use Rattle.job.specs.State.{◌to◌, mass, ledgers, fossil, biomass, ch4, n2o}
use Rattle.job.specs.Words.{unit_at}
use Rattle.job.specs.Shares.{leg_records, coarse, units_each, rest_each, co2_place_of, co2_ledger, fuel_shares, counted_in, other_in, weighed, gathered, sum_at, Held, Modest, Summed}
use Rattle.job.proofs.PlacesLaws.{to_here, to_other, to_at}
use Rattle.job.proofs.WordsLaws.{unit_at_co2, unit_at_trace}
use Rattle.job.proofs.WorthLaws.{worth_of-ch4, worth_of-n2o, worth_of-ch4-none, worth_of-n2o-none, by_ledger, fuel_shares_trace, fuel_shares_elsewhere, fuel_shares_co2}
use Rattle.job.proofs.HeldLaws.{carbon_le, counted_in-le, other_in-le}
use Rattle.job.proofs.WeighedLaws.{length-weighed, units-weighed, rest-weighed, sum_at-weighed, Under, Room, rest_most, rest_product, room_under, under_weighed, spread}

-- ---- how much of a product are coarse units
abbrev counted_units : ℕ
counted_units = 40000000 * leg_records * 200000

abbrev carbon_units : ℕ
carbon_units = 400000000 * leg_records * 3664

co2_place_of-lt : (b : Bool) → co2_place_of b < ch4
co2_place_of-lt true = subst (λ (p : ℕ). p < ch4) (sym (choose_t fossil refl refl)) (lit< tt)
co2_place_of-lt false = subst (λ (p : ℕ). p < ch4) (sym (choose_f biomass refl refl)) (lit< tt)

quotient_le : (x y q : ℕ) → x ≤ coarse * q → y ≤ 200000 → x / coarse * y ≤ q * 200000
quotient_le x y q l m = mul-le-mul {n₂ = q} (omega arith) m

-- ---- one fuel line more
-- What is asked before the line is added.
abbrev pub Ready : Factors → ℕ → List ℕ → List ℕ → Type 0
Ready f k d s = ((k < 64) × Modest f) × ((Held leg_records d) × (Summed k s))

module _ (f : Factors) (k : ℕ) (d s : List ℕ) where
  abbrev place : ℕ
  place = co2_place_of f.biomass

  abbrev counted : ℕ
  counted = counted_in f.heat d k

  abbrev all : ℕ
  all = counted + other_in f.heat d k

  abbrev carbon : ℕ
  carbon = get_or d (16 * k + 8) 0

  abbrev pub once : List ℕ
  once = weighed s place counted f.co2

  abbrev pub twice : List ℕ
  twice = weighed once place carbon 3664

  abbrev pub thrice : List ℕ
  thrice = weighed twice ch4 all f.ch4

  -- What the line gives to the place i, before its unit enters.
  abbrev parts : ℕ → ℕ
  parts i =
      mass ((counted * f.co2) to place) i + mass ((carbon * 3664) to place) i + mass ((all * f.ch4) to ch4) i
      + mass ((all * f.n2o) to n2o) i

  parts_ch4 : parts ch4 ≡ all * f.ch4
  parts_ch4 =
      let l = co2_place_of-lt f.biomass in
      omega (
        arith,
        to_other (counted * f.co2) place ch4 (λ q. omega arith),
        to_other (carbon * 3664) place ch4 (λ q. omega arith),
        to_here (all * f.ch4) ch4,
        to_other (all * f.n2o) n2o ch4 (λ q. omega arith),
      )

  parts_n2o : parts n2o ≡ all * f.n2o
  parts_n2o =
      let l = co2_place_of-lt f.biomass in
      omega (
        arith,
        to_other (counted * f.co2) place n2o (λ q. omega arith),
        to_other (carbon * 3664) place n2o (λ q. omega arith),
        to_other (all * f.ch4) ch4 n2o (λ q. omega arith),
        to_here (all * f.n2o) n2o,
      )

  parts_here : (i : ℕ) → i < ch4 → i ≡ place → parts i ≡ counted * f.co2 + carbon * 3664
  parts_here i l e =
      omega (
        arith,
        to_at (counted * f.co2) place i e,
        to_at (carbon * 3664) place i e,
        to_other (all * f.ch4) ch4 i (λ q. omega arith),
        to_other (all * f.n2o) n2o i (λ q. omega arith),
      )

  parts_else : (i : ℕ) → i < ch4 → (i ≡ place → ⊥) → parts i ≡ 0
  parts_else i l n =
      omega (
        arith,
        to_other (counted * f.co2) place i n,
        to_other (carbon * 3664) place i n,
        to_other (all * f.ch4) ch4 i (λ q. omega arith),
        to_other (all * f.n2o) n2o i (λ q. omega arith),
      )

  module _ (ready : Ready f k d s) where
    abbrev k_lt : k < 64
    k_lt = ready.0.0

    abbrev modest : Modest f
    modest = ready.0.1

    abbrev held : Held leg_records d
    held = ready.1.0

    abbrev summed : Summed k s
    summed = ready.1.1

    place_lt : place < ledgers
    place_lt = omega (arith, co2_place_of-lt f.biomass)

    counted-le : counted ≤ 40000000000000 * leg_records
    counted-le = counted_in-le d k k_lt held f.heat modest.heat_le

    all-le : all ≤ 160000000000000 * leg_records
    all-le = omega (arith, counted-le, other_in-le d k k_lt held f.heat modest.heat_le)

    pub all-lt : all < 18446744073709551616
    all-lt = omega (arith, all-le)

    counted-units : counted / coarse * f.co2 ≤ counted_units
    counted-units = quotient_le counted f.co2 (40000000 * leg_records) counted-le modest.co2_le

    carbon-units : carbon / coarse * 3664 ≤ carbon_units
    carbon-units = omega (arith, carbon_le d k k_lt held)

    ch4-units : all / coarse * f.ch4 ≤ units_each
    ch4-units = quotient_le all f.ch4 (160000000 * leg_records) all-le modest.ch4_le

    n2o-units : all / coarse * f.n2o ≤ units_each
    n2o-units = quotient_le all f.n2o (160000000 * leg_records) all-le modest.n2o_le

    -- How large the sums get at any place, while the line is added.
    under : Under (units_each * 63) (rest_each * 63) s
    under = record {
      whole = summed.whole;
      units_le = λ i l. omega (arith, summed.units_le i l);
      rest_le = λ i l. omega (arith, summed.rest_le i l);
    }

    under_once : Under (units_each * 63 + counted_units) (rest_each * 63 + rest_most) once
    under_once = under_weighed s place counted f.co2 counted_units place_lt modest.co2_le counted-units under

    under_twice : Under (units_each * 63 + counted_units + carbon_units) (rest_each * 63 + rest_most + rest_most) twice
    under_twice = under_weighed once place carbon 3664 carbon_units place_lt (omega arith) carbon-units under_once

    under_thrice :
        Under (units_each * 63 + counted_units + carbon_units + units_each)
        (rest_each * 63 + rest_most + rest_most + rest_most)
        thrice
    under_thrice = under_weighed twice ch4 all f.ch4 units_each (lit< tt) modest.ch4_le ch4-units under_twice

    pub room_once : Room s place counted f.co2
    room_once =
        room_under s place counted f.co2 counted_units place_lt modest.co2_le counted-units under
        (lit< tt) (lit< tt)

    pub room_twice : Room once place carbon 3664
    room_twice =
        room_under once place carbon 3664 carbon_units place_lt (omega arith) carbon-units under_once
        (lit< tt) (lit< tt)

    pub room_thrice : Room twice ch4 all f.ch4
    room_thrice =
        room_under twice ch4 all f.ch4 units_each (lit< tt) modest.ch4_le ch4-units under_twice
        (lit< tt) (lit< tt)

    pub room_last : Room thrice n2o all f.n2o
    room_last =
        room_under thrice n2o all f.n2o units_each (lit< tt) modest.n2o_le n2o-units under_thrice
        (lit< tt) (lit< tt)

    pub summed_gathered : Summed (k + 1) (gathered f k d s)
    unfolding gathered
    summed_gathered = record {
      whole = length-weighed thrice n2o all f.n2o (lit< tt) under_thrice.whole;
      units_le = λ i l.
          let four = units-weighed thrice n2o all f.n2o (lit< tt) under_thrice.whole i l in
          let three = units-weighed twice ch4 all f.ch4 (lit< tt) under_twice.whole i l in
          let two = units-weighed once place carbon 3664 place_lt under_once.whole i l in
          let one = units-weighed s place counted f.co2 place_lt summed.whole i l in
          let more = spread place i (counted / coarse * f.co2) (carbon / coarse * 3664)
          (all / coarse * f.ch4) (all / coarse * f.n2o) units_each
          (co2_place_of-lt f.biomass) (omega (arith, counted-units, carbon-units)) ch4-units n2o-units in
          let before = summed.units_le i l in
          omega arith;
      rest_le = λ i l.
          let four = rest-weighed thrice n2o all f.n2o (lit< tt) under_thrice.whole i l in
          let three = rest-weighed twice ch4 all f.ch4 (lit< tt) under_twice.whole i l in
          let two = rest-weighed once place carbon 3664 place_lt under_once.whole i l in
          let one = rest-weighed s place counted f.co2 place_lt summed.whole i l in
          let by_co2 = rest_product counted f.co2 modest.co2_le in
          let by_carbon = rest_product carbon 3664 (omega arith) in
          let by_ch4 = rest_product all f.ch4 modest.ch4_le in
          let by_n2o = rest_product all f.n2o modest.n2o_le in
          let more = spread place i (counted % coarse * f.co2) (carbon % coarse * 3664)
          (all % coarse * f.ch4) (all % coarse * f.n2o) rest_each
          (co2_place_of-lt f.biomass) (omega arith) (omega arith) (omega arith) in
          let before = summed.rest_le i l in
          omega arith;
    }

    sum_at_parts : (i : ℕ) → i < ledgers → sum_at (gathered f k d s) i ≡ sum_at s i + unit_at i * parts i
    unfolding gathered
    sum_at_parts i l =
        let u = unit_at i in
        let one = mass ((counted * f.co2) to place) i in
        let two = mass ((carbon * 3664) to place) i in
        let three = mass ((all * f.ch4) to ch4) i in
        omega (
          arith,
          sum_at-weighed thrice n2o all f.n2o (lit< tt) under_thrice.whole i l,
          sum_at-weighed twice ch4 all f.ch4 (lit< tt) under_twice.whole i l,
          sum_at-weighed once place carbon 3664 place_lt under_once.whole i l,
          sum_at-weighed s place counted f.co2 place_lt summed.whole i l,
          mul-add u (one + two + three) (mass ((all * f.n2o) to n2o) i),
          mul-add u (one + two) three,
          mul-add u one two,
        )

-- ---- what it gives is what its words come to
module _ (f : List ℕ) (k : ℕ) (d s : List ℕ) (ready : Ready (factors_of f) k d s) where
  ledger : co2_place_of (factors_of f).biomass ≡ co2_ledger f
  unfolding co2_ledger
  ledger = ap co2_place_of (factors_of_parts f).4

  abbrev Gives : ℕ → Type 0
  Gives i = unit_at i * parts (factors_of f) k d s i ≡ fuel_shares f d k i

  gives_co2 : (i : ℕ) → i < ch4 → Gives i
  gives_co2 i l =
      if_eq i (co2_ledger f)
      (λ e.
      let here = parts_here (factors_of f) k d s i l (e ∙ sym ledger) in
      (λ j. unit_at_co2 i l j * here j) ∙ sym (fuel_shares_co2 f d k i l e))
      (λ n.
      ap (λ (m : ℕ). unit_at i * m) (parts_else (factors_of f) k d s i l (λ e. n (e ∙ ledger)))
      ∙ mul-zero (unit_at i)
      ∙ sym (fuel_shares_elsewhere f d k i l n))

  gives-ch4 : Gives ch4
  gives-ch4 =
      let here = parts_ch4 (factors_of f) k d s in
      (λ j. unit_at_trace ch4 (omega arith) j * here j)
      ∙ one-mul (all (factors_of f) k d s * (factors_of f).ch4)
      ∙ sym (fuel_shares_trace f d k ch4 (factors_of f).ch4
      (λ v l. worth_of-ch4 f v l ∙ ap (λ (y : ℕ). y * heat_of f v) (sym (factors_of_parts f).2))
      (worth_of-ch4-none f))

  gives-n2o : Gives n2o
  gives-n2o =
      let here = parts_n2o (factors_of f) k d s in
      (λ j. unit_at_trace n2o (omega arith) j * here j)
      ∙ one-mul (all (factors_of f) k d s * (factors_of f).n2o)
      ∙ sym (fuel_shares_trace f d k n2o (factors_of f).n2o
      (λ v l. worth_of-n2o f v l ∙ ap (λ (y : ℕ). y * heat_of f v) (sym (factors_of_parts f).3))
      (worth_of-n2o-none f))

  pub sum_at-gathered : (i : ℕ) → i < ledgers → sum_at (gathered (factors_of f) k d s) i ≡ sum_at s i + fuel_shares f d k i
  sum_at-gathered i l =
      sum_at_parts (factors_of f) k d s ready i l
      ∙ ap (λ (m : ℕ). sum_at s i + m) (by_ledger Gives i l (gives_co2 i) gives-ch4 gives-n2o)
