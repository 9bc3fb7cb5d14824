-- What is done to the words of a wake, and to the state that they stand for. Assumes nothing.
use Prim.Native.Nat.{ℕ, ◌+◌, ◌-◌, ◌*◌, ◌<◌, ◌≤◌}
use mathlib.Core.List.{List}
use mathlib.Core.Path.{◌≡◌, refl, sym, ap, ◌∙◌, subst}
use native.Mathlib.Nat.{le_of_eq, mul-add, mul-zero}
use native.Mathlib.Omega.{arith}
use lib.Dec.{ltb, lit<}
use lib.ListN.{length, get_or, set, replicate, length-set, length-replicate, get_or-replicate}
use lib.Seq.{get_or-set_same, get_or-set_other}
use borrow.Author.Tests.{ltb-true, ltb-false, lt-ltb, le-ltb}
use Rattle.std.specs.Prelude.{Ok}
use Rattle.choice.proofs.Splitting.{if_eq}
use Rattle.choice.proofs.TestsLaws.{choose_t, choose_f, if_choose}
use Rattle.mass.proofs.FuelLaws.{most_each}
use Rattle.rules.specs.declared.entry.Destination.{Destination}
use Rattle.rules.specs.declared.entry.Destination.TheVariants.{Fossil, Biomass, Nowhere}
use Rattle.rules.specs.declared.entry.Entry.{Entry}
use Rattle.rules.specs.Bounds.{Bounded}
use Rattle.rules.specs.Entry.{co2_alone}
use Rattle.rules.proofs.Co2Laws.{co2_alone-fossil, co2_alone-ch4, co2_alone-n2o}
use Rattle.job.specs.State.{◌to◌, mass, ledgers, fossil, ch4, n2o, co2_to, gives}
use Rattle.job.specs.Words.{words, carries, full, half, low_at, high_at, unit_at, mass_at, added, co2_place, co2_kept, given, Kept}
use Rattle.job.proofs.PlacesLaws.{to_here, to_other, to_le}
use Rattle.job.proofs.StateLaws.{given_parts}

-- ---- units
pub unit_at_co2 : (i : ℕ) → i < ch4 → unit_at i ≡ 1000
unfolding unit_at
unit_at_co2 i l = choose_t 1 (lt-ltb i ch4 l) refl

pub unit_at_trace : (i : ℕ) → ch4 ≤ i → unit_at i ≡ 1
unfolding unit_at
unit_at_trace i l = choose_f 1000 (le-ltb i ch4 l) refl

-- ---- x more at place k: v are the words w with other digits there
record Moved (w v : List ℕ) (k : ℕ) : Type 0 where
  whole : length v ≡ length w
  low_else : (i : ℕ) → i < ledgers → (i ≡ k → ⊥) → low_at v i ≡ low_at w i
  high_else : (i : ℕ) → (i ≡ k → ⊥) → high_at v i ≡ high_at w i

record Step (w v : List ℕ) (k x : ℕ) : Type 0 where
  moved : Moved w v k
  sum : full * high_at v k + low_at v k ≡ full * high_at w k + low_at w k + x
  low : low_at v k < half
  few : high_at v k ≤ high_at w k + 1

module _ (w : List ℕ) (k x : ℕ) (l : k < ledgers) (whole : length w ≡ words) (h : low_at w k < half) (x_lt : x < full) where
  abbrev sum_of : ℕ
  sum_of = low_at w k + x

  step_low : sum_of < half → Step w (set w k sum_of) k x
  step_low m =
      let low = get_or-set_same w k sum_of 0 (omega arith) in
      let high = get_or-set_other w k (ledgers + k) sum_of 0 (λ e. omega arith) in
      record {
        moved = record {
          whole = length-set w k sum_of;
          low_else = λ i p n. get_or-set_other w k i sum_of 0 n;
          high_else = λ i n. get_or-set_other w k (ledgers + i) sum_of 0 (λ e. omega arith);
        };
        sum = omega arith;
        low = omega arith;
        few = omega arith;
      }

  step_high : half ≤ sum_of → Step w (set (set w k (sum_of - full)) (ledgers + k) (high_at w k + 1)) k x
  step_high m =
      let u = set w k (sum_of - full) in
      let long = length-set w k (sum_of - full) in
      let low = get_or-set_other u (ledgers + k) k (high_at w k + 1) 0 (λ e. omega arith) ∙ get_or-set_same w k (sum_of - full) 0 (omega arith) in
      let high = get_or-set_same u (ledgers + k) (high_at w k + 1) 0 (omega arith) in
      record {
        moved = record {
          whole = length-set u (ledgers + k) _ ∙ long;
          low_else = λ i p n. get_or-set_other u (ledgers + k) i _ 0 (λ e. omega arith) ∙ get_or-set_other w k i _ 0 n;
          high_else = λ i n. get_or-set_other u (ledgers + k) (ledgers + i) _ 0 (λ e. n (omega arith)) ∙ get_or-set_other w k (ledgers + i) _ 0 (λ e. omega arith);
        };
        sum = omega arith;
        low = omega arith;
        few = omega arith;
      }

  step_added : Step w (added w k x) k x
  unfolding added
  step_added =
      if_choose (λ (v : List ℕ). Step w v k x) (ltb sum_of half)
      (λ e. step_low (ltb-true sum_of half e))
      (λ e. step_high (ltb-false sum_of half e))

module _ {m : ℕ} (w : List ℕ) (k x : ℕ) (l : k < ledgers) (kept : Kept m w) (x_lt : x < full) where
  step : Step w (added w k x) k x
  step = step_added w k x l kept.whole (kept.low k l) x_lt

  pub kept-added : Kept (m + 1) (added w k x)
  kept-added = record {
    whole = step.moved.whole ∙ kept.whole;
    low = λ i p. if_eq i k
        (λ e. subst (λ (j : ℕ). low_at (added w k x) j < half) (sym e) step.low)
        (λ n. omega (arith, step.moved.low_else i p n, kept.low i p));
    few = λ i p. if_eq i k
        (λ e. subst (λ (j : ℕ). high_at (added w k x) j ≤ m + 1) (sym e) (omega (arith, step.few, kept.few k l)))
        (λ n. omega (arith, step.moved.high_else i n, kept.few i p));
  }

  -- Nothing more raises no high digit.
  few-none : x ≡ 0 → high_at (added w k x) k ≤ high_at w k
  unfolding added
  few-none none =
      if_choose (λ (v : List ℕ). high_at v k ≤ high_at w k) (ltb (low_at w k + x) half)
      (λ e. le_of_eq (get_or-set_other w k (ledgers + k) _ 0 (λ q. omega arith)))
      (λ e. absurd (omega (arith, kept.low k l, ltb-false (low_at w k + x) half e)))

  pub kept-none : x ≡ 0 → Kept m (added w k x)
  kept-none none = record {
    whole = kept-added.whole;
    low = kept-added.low;
    few = λ i p. if_eq i k
        (λ e. subst (λ (j : ℕ). high_at (added w k x) j ≤ m) (sym e) (omega (arith, few-none none, kept.few k l)))
        (λ n. omega (arith, step.moved.high_else i n, kept.few i p));
  }

  pub mass_at-added : (i : ℕ) → i < ledgers → mass_at (added w k x) i ≡ mass_at w i + mass ((unit_at k * x) to k) i
  unfolding mass_at
  mass_at-added i p =
      if_eq i k
      (λ e. subst (λ (j : ℕ). mass_at (added w k x) j ≡ mass_at w j + mass ((unit_at k * x) to k) j) (sym e)
      (ap (λ (v : ℕ). unit_at k * v) step.sum
      ∙ mul-add (unit_at k) (full * high_at w k + low_at w k) x
      ∙ ap (λ (v : ℕ). mass_at w k + v) (sym (to_here (unit_at k * x) k))))
      (λ n.
      (λ j. unit_at i * (full * step.moved.high_else i n j + step.moved.low_else i p n j))
      ∙ omega (arith, to_other (unit_at k * x) k i n))

-- What is asked of an addition.
abbrev pub Room : List ℕ → ℕ → ℕ → Type 0
Room w k x = ((length w ≡ words) × (k < ledgers)) × ((low_at w k < half) × (x < full) × (high_at w k ≤ carries + 2))

pub room : {m : ℕ} (w : List ℕ) (k x : ℕ) → k < ledgers → Kept m w → m ≤ carries + 2 → x < full → Room w k x
room w k x l kept n h = ((kept.whole, l), (kept.low k l, h, omega (arith, kept.few k l)))

pub mass-lt : {x : ℕ} → x ≤ most_each → x < full
mass-lt h = omega arith

pub kept_more : {m n : ℕ} (w : List ℕ) → m ≤ n → Kept m w → Kept n w
kept_more w l k = record { whole = k.whole; low = k.low; few = λ i p. omega (arith, k.few i p) }

-- ---- what an entry gives
co2_placed : (d : Destination) (x i : ℕ) → mass ((1000 * co2_kept d x) to co2_place d) i ≡ mass (co2_to d (1000 * x)) i
co2_placed Fossil x i = refl
co2_placed Biomass x i = refl
co2_placed Nowhere x i = omega (arith, to_le 0 0 i)

co2_place-lt : (d : Destination) → co2_place d < ch4
co2_place-lt Fossil = lit< tt
co2_place-lt Biomass = lit< tt
co2_place-lt Nowhere = lit< tt

co2_kept-le : (d : Destination) (x : ℕ) → co2_kept d x ≤ x
co2_kept-le Fossil x = omega arith
co2_kept-le Biomass x = omega arith
co2_kept-le Nowhere x = omega arith

module _ {m : ℕ} (w : List ℕ) (kept : Kept m w) where
  pub mass_at_co2 : (k x : ℕ) → k < ch4 → x < full → (i : ℕ) → i < ledgers → mass_at (added w k x) i ≡ mass_at w i + mass ((1000 * x) to k) i
  mass_at_co2 k x l h i p =
      mass_at-added w k x (omega arith) kept h i p
      ∙ ap (λ (u : ℕ). mass_at w i + mass ((u * x) to k) i) (unit_at_co2 k l)

  mass_at_trace : (k x : ℕ) → ch4 ≤ k → k < ledgers → x < full → (i : ℕ) → i < ledgers → mass_at (added w k x) i ≡ mass_at w i + mass (x to k) i
  mass_at_trace k x l n h i p =
      let one : 1 * x ≡ x = omega arith in
      mass_at-added w k x n kept h i p
      ∙ ap (λ (y : ℕ). mass_at w i + mass (y to k) i) (ap (λ (u : ℕ). u * x) (unit_at_trace k l) ∙ one)

module _ {m : ℕ} (w : List ℕ) (kept : Kept m w) (e : Entry) (b : Bounded (Ok e)) where
  abbrev co2 : ℕ
  co2 = co2_kept e.destination e.co2.0

  abbrev once : List ℕ
  once = added w (co2_place e.destination) co2

  abbrev twice : List ℕ
  twice = added once ch4 e.ch4.0

  co2_lt : co2 < full
  co2_lt = omega (arith, co2_kept-le e.destination e.co2.0, b.1)

  place_lt : co2_place e.destination < ledgers
  place_lt = omega (arith, co2_place-lt e.destination)

  kept_once : Kept (m + 1) once
  kept_once = kept-added w (co2_place e.destination) co2 place_lt kept co2_lt

  kept_twice : Kept (m + 1 + 1) twice
  kept_twice = kept-added once ch4 e.ch4.0 (lit< tt) kept_once (mass-lt b.2)

  pub kept-given : Kept (m + 3) (given w e)
  kept-given = kept_more (given w e) (omega arith) (kept-added twice n2o e.n2o.0 (lit< tt) kept_twice (mass-lt b.3))

  module _ (l : m ≤ carries) where
    pub room_ch4 : Room once ch4 e.ch4.0
    room_ch4 = room once ch4 e.ch4.0 (lit< tt) kept_once (omega arith) (mass-lt b.2)

    pub room_n2o : Room twice n2o e.n2o.0
    room_n2o = room twice n2o e.n2o.0 (lit< tt) kept_twice (omega arith) (mass-lt b.3)

  pub mass_at-given : (i : ℕ) → i < ledgers → mass_at (given w e) i ≡ mass_at w i + mass (gives (Ok e)) i
  mass_at-given i p =
      let by_co2 = mass_at_co2 w kept (co2_place e.destination) co2 (co2_place-lt e.destination) co2_lt i p in
      let by_ch4 = mass_at_trace once kept_once ch4 e.ch4.0 (omega arith) (lit< tt) (omega (arith, b.2)) i p in
      let by_n2o = mass_at_trace twice kept_twice n2o e.n2o.0 (omega arith) (lit< tt) (omega (arith, b.3)) i p in
      omega (arith, given_parts e i, co2_placed e.destination e.co2.0 i)

  -- Its CO2 alone, where it gives nothing else.
  pub mass_at_alone : e ≡ co2_alone e.co2 → (i : ℕ) → i < ledgers
      → mass_at (added w fossil e.co2.0) i ≡ mass_at w i + mass (gives (Ok e)) i
  mass_at_alone alone i p =
      let to-fossil = ap (λ (x : Entry). x.destination) alone ∙ co2_alone-fossil e.co2 in
      let by_co2 = ap (λ (d : Destination). mass (co2_to d (1000 * e.co2.0)) i) to-fossil in
      let no-ch4 = ap (λ (x : Entry). x.ch4.0) alone ∙ co2_alone-ch4 e.co2 in
      let no-n2o = ap (λ (x : Entry). x.n2o.0) alone ∙ co2_alone-n2o e.co2 in
      let ch4_le = to_le e.ch4.0 ch4 i in
      let n2o_le = to_le e.n2o.0 n2o i in
      omega (arith, mass_at_co2 w kept fossil e.co2.0 (lit< tt) (omega (arith, b.1)) i p, given_parts e i)

-- ---- words that are all 0
blank-word : (i : ℕ) → i < words → get_or (replicate {A = ℕ} words 0) i 0 ≡ 0
blank-word i l = get_or-replicate words i 0 0 l

pub mass_at-blank : (i : ℕ) → i < ledgers → mass_at (replicate words 0) i ≡ 0
unfolding mass_at
mass_at-blank i l =
    let low = blank-word i (omega arith) in
    let high = blank-word (ledgers + i) (omega arith) in
    (λ j. unit_at i * (full * high j + low j)) ∙ mul-zero (unit_at i)

pub kept-blank : (m : ℕ) → Kept m (replicate words 0)
kept-blank m = record {
  whole = length-replicate {A = ℕ} words 0;
  low = λ i l. omega (arith, blank-word i (omega arith));
  few = λ i l. omega (arith, blank-word (ledgers + i) (omega arith));
}
