-- A record's share changes two words of its fuel, and so what all words come to by what the record gives; the words
-- stay as few as the records. Assumes nothing.
use Prim.Native.Nat.{ℕ, ◌+◌, ◌*◌, ◌/◌, ◌<◌, ◌≤◌, zero-le}
use mathlib.Core.List.{List}
use mathlib.Core.Path.{◌≡◌, refl, sym, ap, ◌∙◌, subst}
use native.Mathlib.Nat.{mul-add, add-mul, mul_left_comm, mul-le-mul_left, mul-le-mul, le_trans}
use native.Mathlib.Omega.{arith}
use lib.Dec.{eqb}
use lib.ListN.{length, get_or, replicate, length-set, length-replicate, get_or-replicate, get_or-eq_default}
use lib.Seq.{get_or-set_same, get_or-set_other}
use Rattle.choice.proofs.Splitting.{if_test, if_lt, if_eq}
use Rattle.choice.proofs.TestsLaws.{choose_t, choose_f}
use Rattle.rules.specs.declared.entry.Destination.{Destination}
use Rattle.rules.specs.declared.entry.Destination.TheVariants.{Fossil, Biomass, Nowhere}
use Rattle.rules.specs.Outcome.{Outcome}
use Rattle.rules.specs.declared.sorting.Share.{Share}
use Rattle.rules.specs.Bytes.{line}
use Rattle.rules.specs.Fields.{fuel_class, ch4_factor, n2o_factor}
use Rattle.rules.specs.Sorting.{heat_of, co2_of, carbon_of, ledger_of, Shared}
use Rattle.rules.proofs.FactorsLaws.{heat_of_way, carbon_of-none, ledger_of-none, ledger_of-monitor}
use Rattle.job.specs.State.{◌to◌, mass, ledgers, fossil, biomass, ch4, n2o, co2_to, gives}
use Rattle.job.specs.Shares.{leg_records, raised, shared, co2_ledger, worth_of, fuel_shares, shares_at, most_in, Held}
use Rattle.job.proofs.PlacesLaws.{to_here, to_other, to_at, to_le, get_d_raised}
use Rattle.job.proofs.StateLaws.{given_parts, co2_to_trace}
use Rattle.job.proofs.WorthLaws.{sum_to-same, sum_to_more, sum_to-none, worth_of-ch4, worth_of-n2o, worth_of-ch4-none, worth_of-n2o-none, worth_of_elsewhere, worth_of-heat, worth_of-carbon, worth_of-monitor, by_ledger}
use Rattle.job.proofs.HeldLaws.{most_in_burned, most_in-carbon, most_in-le, most_burned_way}

-- ---- x more in the word v of fuel line k
module _ (d : List ℕ) (k v x : ℕ) (v-lt : v < 16) (there : 16 * k + v < length d) where
  fuel_shares_here : (f : List ℕ) (i : ℕ)
      → fuel_shares f (raised d (16 * k + v) x) k i ≡ fuel_shares f d k i + x * worth_of f v i
  unfolding fuel_shares
  fuel_shares_here f i =
      sum_to_more _ _ 16 v _ v-lt
      (λ j n. ap (λ (y : ℕ). y * worth_of f j i) (get_or-set_other d (16 * k + v) (16 * k + j) _ 0 (λ e. n (omega arith))))
      (ap (λ (y : ℕ). y * worth_of f v i) (get_or-set_same d (16 * k + v) _ 0 there)
      ∙ add-mul (get_or d (16 * k + v) 0) x (worth_of f v i))

  fuel_shares_else : (f : List ℕ) (j i : ℕ) → (j ≡ k → ⊥)
      → fuel_shares f (raised d (16 * k + v) x) j i ≡ fuel_shares f d j i
  unfolding fuel_shares
  fuel_shares_else f j i n =
      sum_to-same _ _ 16
      (λ u l. ap (λ (y : ℕ). y * worth_of f u i) (get_or-set_other d (16 * k + v) (16 * j + u) _ 0 (λ e. n (omega arith))))

  shares_at-raised : (fs : List ℕ) (i : ℕ) → k < length fs / 32
      → shares_at fs (raised d (16 * k + v) x) i ≡ shares_at fs d i + x * worth_of (line k fs) v i
  unfolding shares_at
  shares_at-raised fs i l =
      sum_to_more _ _ (length fs / 32) k _ l
      (λ j n. fuel_shares_else (line j fs) j i n)
      (fuel_shares_here (line k fs) i)

-- ---- words that are all 0
blank-word : (j : ℕ) → get_or (replicate {A = ℕ} 1024 0) j 0 ≡ 0
blank-word j =
    if_lt j 1024
    (λ l. get_or-replicate 1024 j 0 0 l)
    (λ l. get_or-eq_default (replicate {A = ℕ} 1024 0) 0 {n = j} (omega (arith, length-replicate {A = ℕ} 1024 0)))

pub shares_at-none : (fs : List ℕ) (i : ℕ) → shares_at fs (replicate 1024 0) i ≡ 0
unfolding shares_at fuel_shares
shares_at-none fs i =
    sum_to-none _ (length fs / 32)
    (λ k. sum_to-none _ 16 (λ v. ap (λ (y : ℕ). y * worth_of (line k fs) v i) (blank-word (16 * k + v)) ∙ omega arith))

pub held_none : Held 0 (replicate 1024 0)
held_none = record {
  whole = length-replicate {A = ℕ} 1024 0;
  few = λ k v k_lt v-lt. subst (λ (y : ℕ). y ≤ most_in v * 0) (sym (blank-word (16 * k + v))) zero-le;
}

pub held_more : {m n : ℕ} (d : List ℕ) → n ≤ m → Held n d → Held m d
held_more d l h = record {
  whole = h.whole;
  few = λ k v k_lt v-lt. le_trans (h.few k v k_lt v-lt) (mul-le-mul_left (most_in v) l);
}

-- ---- CO2 goes to one ledger alone
placed : (f : List ℕ) (i v w burned carbon co2 sum : ℕ) → i < ch4 → v < 8 → w ≡ 8
    → sum ≡ burned * co2_of f v + carbon * 3664 + co2
    → burned * worth_of f v i + carbon * worth_of f w i + mass ((1000 * co2) to co2_ledger f) i
    ≡ mass ((1000 * sum) to co2_ledger f) i
placed f i v w burned carbon co2 sum l v-lt w-is sum_is_lem =
    if_eq i (co2_ledger f)
    (λ e.
    let by_heat = ap (λ (y : ℕ). burned * y) (worth_of-heat f v i l e v-lt) ∙ mul_left_comm burned 1000 (co2_of f v) in
    let by_carbon = ap (λ (y : ℕ). carbon * y) (worth_of-carbon f w i l e w-is) in
    omega (arith, to_at (1000 * co2) (co2_ledger f) i e, to_at (1000 * sum) (co2_ledger f) i e))
    (λ n.
    let by_heat = ap (λ (y : ℕ). burned * y) (worth_of_elsewhere f v i l n) in
    let by_carbon = ap (λ (y : ℕ). carbon * y) (worth_of_elsewhere f w i l n) in
    omega (arith, to_other (1000 * co2) (co2_ledger f) i n, to_other (1000 * sum) (co2_ledger f) i n))

biomass-apart : ◌≡◌ {A = Destination} Biomass Fossil → ⊥
biomass-apart e = let z : ◌≡◌ {A = ℕ} 0 1 = cc in omega arith

nowhere_apart : ◌≡◌ {A = Destination} Nowhere Fossil → ⊥
nowhere_apart e = let z : ◌≡◌ {A = ℕ} 0 1 = cc in omega arith

nowhere : (f : List ℕ) (i v w burned carbon : ℕ) → i < ch4 → 2 ≤ v → v < 8 → 8 < w
    → burned * worth_of f v i + carbon * worth_of f w i ≡ 0
nowhere f i v w burned carbon l v-ge v-lt w-gt =
    let by_heat = ap (λ (y : ℕ). burned * y) (worth_of-monitor f v i l v-ge (λ e. omega arith)) in
    let by_carbon = ap (λ (y : ℕ). carbon * y) (worth_of-monitor f w i l (omega arith) (λ e. omega arith)) in
    omega arith

-- ---- one share more
module _ {o : Outcome} {fs : List ℕ} {x : Share} {n : ℕ} {d : List ℕ}
    (s : Shared o fs x) (lines-le : length fs / 32 ≤ 64) (held : Held n d) where
  abbrev fuel : List ℕ
  fuel = line s.fuel fs

  abbrev way : ℕ
  way = 4 * s.monitor + x.way

  abbrev carbon-word : ℕ
  carbon-word = 4 * s.monitor + 8

  way_lt : way < 8
  way_lt = let l = s.way_lt in let two = s.two in omega arith

  at_way : x.at + x.way ≡ 16 * s.fuel + way
  at_way = let at = s.at_is in omega arith

  at_carbon : x.at + 8 ≡ 16 * s.fuel + carbon-word
  at_carbon = let at = s.at_is in omega arith

  fuel_lt : s.fuel < 64
  fuel_lt = let there = s.there in omega arith

  abbrev burned_more : List ℕ
  burned_more = raised d (16 * s.fuel + way) x.burned

  shared-words : shared d x ≡ raised burned_more (16 * s.fuel + carbon-word) x.carbon
  unfolding shared
  shared-words = λ i. raised (raised d (at_way i) x.burned) (at_carbon i) x.carbon

  burned_in : x.burned ≤ most_in way
  burned_in =
      let le = s.burned_le in
      omega (arith, most_in_burned way way_lt, most_burned_way way x.way (omega arith))

  -- ---- there is room for it
  word-le : n < leg_records → (v : ℕ) → v < 16 → get_or d (16 * s.fuel + v) 0 ≤ 400000000000000 * leg_records
  word-le l v v-lt =
      le_trans (held.few s.fuel v fuel_lt v-lt) (mul-le-mul {m₂ = leg_records} (most_in-le v) (omega arith))

  pub there-shared : (x.at + 8 < 1024) × (x.way < 4)
  there-shared =
      let two = s.two in
      let at = s.at_is in
      (omega (arith, fuel_lt), s.way_lt)

  pub room_shared : n < leg_records →
      (get_or d (x.at + x.way) 0 + x.burned < 18446744073709551616)
      × (get_or d (x.at + 8) 0 + x.carbon < 18446744073709551616)
  room_shared l =
      let two = s.two in
      let first = word-le l way (omega (arith, way_lt)) in
      let second = word-le l carbon-word (omega arith) in
      let carbon = s.carbon_le in (
        subst (λ (p : ℕ). get_or d p 0 + x.burned < 18446744073709551616) (sym at_way)
            (omega (arith, burned_in, most_in-le way)),
        subst (λ (p : ℕ). get_or d p 0 + x.carbon < 18446744073709551616) (sym at_carbon) (omega arith),
      )

  -- ---- each word is as small as one record more allows
  burned_there : 16 * s.fuel + way < length d
  burned_there = let whole = held.whole in omega (arith, fuel_lt, way_lt)

  carbon-there : 16 * s.fuel + carbon-word < length burned_more
  carbon-there =
      let whole = held.whole in
      let two = s.two in
      omega (arith, fuel_lt, length-set d (16 * s.fuel + way) (get_or d (16 * s.fuel + way) 0 + x.burned))

  few-shared : (k v : ℕ) → k < 64 → v < 16
      → get_or (raised burned_more (16 * s.fuel + carbon-word) x.carbon) (16 * k + v) 0 ≤ most_in v * (n + 1)
  few-shared k v k_lt v-lt =
      let before = held.few k v k_lt v-lt in
      let step = mul-add (most_in v) n 1 in
      let carbon = s.carbon_le in
      let first = get_d_raised d (16 * s.fuel + way) x.burned (16 * k + v) burned_there in
      let second = get_d_raised burned_more (16 * s.fuel + carbon-word) x.carbon (16 * k + v) carbon-there in
      if_eq (16 * k + v) (16 * s.fuel + carbon-word)
      (λ e.
      let none = to_other x.burned (16 * s.fuel + way) (16 * k + v) (λ q. omega (arith, way_lt)) in
      omega (arith, to_le x.carbon (16 * s.fuel + carbon-word) (16 * k + v), most_in-carbon v (omega arith)))
      (λ not-carbon.
      let none = to_other x.carbon (16 * s.fuel + carbon-word) (16 * k + v) not-carbon in
      if_eq (16 * k + v) (16 * s.fuel + way)
      (λ e.
      let word : way ≡ v = omega (arith, way_lt) in
      let le = subst (λ (u : ℕ). x.burned ≤ most_in u) word burned_in in
      omega (arith, to_le x.burned (16 * s.fuel + way) (16 * k + v)))
      (λ not-way. omega (arith, to_other x.burned (16 * s.fuel + way) (16 * k + v) not-way)))

  pub held-shared : Held (n + 1) (shared d x)
  held-shared =
      subst (Held (n + 1)) (sym shared-words) (record {
        whole = length-set burned_more _ _ ∙ length-set d _ _ ∙ held.whole;
        few = few-shared;
      })

  -- ---- all words come to what the record gives more
  shares_at-words : (i : ℕ) → shares_at fs (shared d x) i
      ≡ shares_at fs d i + x.burned * worth_of fuel way i + x.carbon * worth_of fuel carbon-word i
  shares_at-words i =
      let two = s.two in
      let l = s.there in
      let first = shares_at-raised d s.fuel way x.burned (omega (arith, way_lt)) burned_there fs i l in
      let second = shares_at-raised burned_more s.fuel carbon-word x.carbon (omega arith) carbon-there fs i l in
      ap (λ (e : List ℕ). shares_at fs e i) shared-words ∙ omega arith

  abbrev co2 : ℕ
  co2 = 1000 * s.entry.co2.0

  given_is : (i : ℕ) → mass (gives o) i
      ≡ mass (co2_to s.entry.destination co2) i + mass (s.entry.ch4.0 to ch4) i + mass (s.entry.n2o.0 to n2o) i
  given_is i = ap (λ (r : Outcome). mass (gives r) i) s.counts ∙ given_parts s.entry i

  -- The CO2 of analysed gas, which is fossil, is told by itself.
  module _ (gas : (s.entry.destination ≡ Fossil → ⊥) → x.co2.0 ≡ 0) where
    abbrev More : ℕ → Type 0
    More i =
        x.burned * worth_of fuel way i + x.carbon * worth_of fuel carbon-word i + mass ((1000 * x.co2.0) to fossil) i
        ≡ mass (gives o) i

    more_without : s.monitor ≡ 0 → (i : ℕ) → i < ch4 → More i
    unfolding co2_ledger
    more_without m i l =
        let kept = s.ledger ∙ ap (λ (y : ℕ). ledger_of y fuel) m ∙ ledger_of-none fuel in
        let by_carbon = ap carbon_of m ∙ carbon_of-none in
        let sum = s.co2_is ∙ ap (λ (y : ℕ). x.burned * co2_of fuel way + x.carbon * y + x.co2.0) by_carbon in
        let all = placed fuel i way carbon-word x.burned x.carbon x.co2.0 _ l way_lt (omega arith) sum in
        let no-ch4 = to_other s.entry.ch4.0 ch4 i (λ e. omega arith) in
        let no-n2o = to_other s.entry.n2o.0 n2o i (λ e. omega arith) in
        if_test (eqb (fuel_class fuel) 3)
        (λ t.
        let to-biomass = kept ∙ choose_t Fossil t refl in
        let place : co2_ledger fuel ≡ biomass = choose_t fossil t refl in
        let none = gas (λ e. biomass-apart (sym to-biomass ∙ e)) in
        let there = ap (λ (y : Destination). mass (co2_to y co2) i) to-biomass in
        let led = ap (λ (p : ℕ). mass (co2 to p) i) place in
        omega (arith, given_is i, to_le (1000 * x.co2.0) fossil i, to_le (1000 * x.co2.0) (co2_ledger fuel) i))
        (λ t.
        let to-fossil = kept ∙ choose_f Biomass t refl in
        let place : co2_ledger fuel ≡ fossil = choose_f biomass t refl in
        let there = ap (λ (y : Destination). mass (co2_to y co2) i) to-fossil in
        let led = ap (λ (p : ℕ). mass (co2 to p) i) place in
        let told = ap (λ (p : ℕ). mass ((1000 * x.co2.0) to p) i) place in
        omega (arith, given_is i))

    more_with : s.monitor ≡ 1 → (i : ℕ) → i < ch4 → More i
    more_with m i l =
        let kept = s.ledger ∙ ap (λ (y : ℕ). ledger_of y fuel) m ∙ ledger_of-monitor fuel in
        let none = gas (λ e. nowhere_apart (sym kept ∙ e)) in
        let there = ap (λ (y : Destination). mass (co2_to y co2) i) kept in
        let no-ch4 = to_other s.entry.ch4.0 ch4 i (λ e. omega arith) in
        let no-n2o = to_other s.entry.n2o.0 n2o i (λ e. omega arith) in
        let nothing = nowhere fuel i way carbon-word x.burned x.carbon l (omega arith) way_lt (omega arith) in
        omega (arith, given_is i, to_le (1000 * x.co2.0) fossil i)

    heat_way : heat_of fuel way ≡ heat_of fuel x.way
    heat_way = heat_of_way fuel way x.way (omega arith)

    more_ch4 : More ch4
    more_ch4 =
        let worth = worth_of-ch4 fuel way way_lt ∙ ap (λ (y : ℕ). ch4_factor fuel * y) heat_way in
        let by_heat = ap (λ (y : ℕ). x.burned * y) worth in
        let by_carbon = ap (λ (y : ℕ). x.carbon * y) (worth_of-ch4-none fuel carbon-word (omega arith)) in
        let no-gas = to_other (1000 * x.co2.0) fossil ch4 (λ e. omega arith) in
        let no_co2 = co2_to_trace s.entry.destination co2 ch4 (omega arith) in
        let no-n2o = to_other s.entry.n2o.0 n2o ch4 (λ e. omega arith) in
        let sum = s.ch4_is in
        omega (arith, given_is ch4, to_here s.entry.ch4.0 ch4)

    more_n2o : More n2o
    more_n2o =
        let worth = worth_of-n2o fuel way way_lt ∙ ap (λ (y : ℕ). n2o_factor fuel * y) heat_way in
        let by_heat = ap (λ (y : ℕ). x.burned * y) worth in
        let by_carbon = ap (λ (y : ℕ). x.carbon * y) (worth_of-n2o-none fuel carbon-word (omega arith)) in
        let no-gas = to_other (1000 * x.co2.0) fossil n2o (λ e. omega arith) in
        let no_co2 = co2_to_trace s.entry.destination co2 n2o (omega arith) in
        let no-ch4 = to_other s.entry.ch4.0 ch4 n2o (λ e. omega arith) in
        let sum = s.n2o_is in
        omega (arith, given_is n2o, to_here s.entry.n2o.0 n2o)

    more_co2 : (i : ℕ) → i < ch4 → More i
    more_co2 i l =
        let two = s.two in
        if_eq s.monitor 0 (λ m. more_without m i l) (λ m. more_with (omega arith) i l)

    pub shares_at-shared : (i : ℕ) → i < ledgers
        → shares_at fs (shared d x) i + mass ((1000 * x.co2.0) to fossil) i ≡ shares_at fs d i + mass (gives o) i
    shares_at-shared i l =
        let more = by_ledger More i l (more_co2 i) more_ch4 more_n2o in
        omega (arith, shares_at-words i)
