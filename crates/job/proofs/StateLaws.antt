-- How records change a state: its place, the first record set aside, what each ledger gets, and that all this stays
-- within what a sound checkpoint allows. Assumes nothing.
use Prim.Native.Nat.{ℕ, zero, suc, ◌+◌, ◌*◌, ◌/◌, ◌<◌, ◌≤◌, zero-le}
use mathlib.Core.List.{List}
use mathlib.Core.Path.{◌≡◌, refl, sym, ap, ◌∙◌, subst}
use native.Mathlib.Nat.{add-zero, add-suc, not-suc-le-zero}
use native.Mathlib.Omega.{arith}
use lib.ListN.{length}
use borrow.Author.Tests.{eq-eqb, ne_eqb}
use Rattle.std.specs.Prelude.{Ok, Err}
use Rattle.choice.proofs.Splitting.{if_lt, if_eq}
use Rattle.choice.proofs.TestsLaws.{choose_t, choose_f}
use Rattle.mass.specs.Ledger.{tonne, tonnes_each}
use Rattle.rules.specs.declared.book.Head.{Head}
use Rattle.rules.specs.declared.entry.Destination.{Destination}
use Rattle.rules.specs.declared.entry.Destination.TheVariants.{Fossil, Biomass, Nowhere}
use Rattle.rules.specs.declared.entry.Entry.{Entry}
use Rattle.rules.specs.declared.record.Reason.{Reason}
use Rattle.rules.specs.Outcome.{reason_number, Outcome}
use Rattle.rules.specs.Book.{opened, accepted}
use Rattle.rules.specs.Record.{last_reason, outcome_at}
use Rattle.rules.specs.Bounds.{Bounded}
use Rattle.rules.proofs.RecordLaws.{bounded_outcome_at}
use Rattle.job.specs.declared.counts.Counts.{Counts}
use Rattle.job.specs.State.{◌to◌, ◌plus◌, mass, State, ledgers, ch4, n2o, co2_to, gives, aside_of, fresh, counted, after, run, first, sum_to}
use Rattle.job.specs.Bounds.{CountsFit, FitFor}
use Rattle.job.proofs.PlacesLaws.{to_other, to_le, length_to, get_d_plus, length_plus, length_plus_le, length-each, zeros-each}

-- ---- how far a state is
pub counted_done : (c : Counts) (o : Outcome) → (counted c o).done ≡ c.done + 1
unfolding counted
counted_done c (Err k) = refl
counted_done c (Ok e) = refl

pub after_done : (s : State) (o : Outcome) → (after s o).counts.done ≡ s.counts.done + 1
unfolding after
after_done s o = counted_done s.counts o

pub run_done : (h : Head) (k : List ℕ) (s : State) (n : ℕ) → (run h k s n).counts.done ≡ s.counts.done + n
unfolding run
run_done h k s zero = omega arith
run_done h k s (suc n) =
    let place = (run h k s n).counts.done in
    omega (arith, after_done (run h k s n) (outcome_at h k place), run_done h k s n)

pub first_done : (h : Head) (k : List ℕ) (n : ℕ) → (first h k n).counts.done ≡ n
unfolding first fresh
first_done h k zero = refl
first_done h k (suc n) = omega (arith, after_done (first h k n) (outcome_at h k n), first_done h k n)

-- ---- records in turn
pub run-run : (h : Head) (k : List ℕ) (s : State) (m n : ℕ) → run h k (run h k s m) n ≡ run h k s (m + n)
unfolding run
run-run h k s m zero = rw add-zero
run-run h k s m (suc n) = rw (add-suc, run-run h k s m n)

pub run-first : (h : Head) (k : List ℕ) (p n : ℕ) → run h k (first h k p) n ≡ first h k (p + n)
unfolding run first
run-first h k p zero = rw add-zero
run-first h k p (suc n) =
    rw (add-suc, run-first h k p n)
    (ap (λ (i : ℕ). after (first h k (p + n)) (outcome_at h k i)) (first_done h k (p + n)))

-- ---- the first record set aside is told, and a later one changes nothing
pub counted-first : (c : Counts) (r : Reason) → c.aside ≡ 0
    → ((counted c (Err r)).index ≡ c.done) × ((counted c (Err r)).reason ≡ reason_number r)
unfolding counted
counted-first c r e =
    let none = eq-eqb c.aside 0 e in
    (choose_t c.index none refl, choose_t c.reason none refl)

pub counted_later : (c : Counts) (r : Reason) → (c.aside ≡ 0 → ⊥)
    → ((counted c (Err r)).index ≡ c.index) × ((counted c (Err r)).reason ≡ c.reason)
unfolding counted
counted_later c r e =
    let some = ne_eqb c.aside 0 e in
    (choose_f c.done some refl, choose_f (reason_number r) some refl)

-- ---- what an outcome gives to a ledger
pub given_parts : (e : Entry) (i : ℕ) →
    mass (gives (Ok e)) i
    ≡ mass (co2_to e.destination (1000 * e.co2.0)) i + mass (e.ch4.0 to ch4) i + mass (e.n2o.0 to n2o) i
given_parts e i =
    let co2 = co2_to e.destination (1000 * e.co2.0) in
    get_d_plus (co2 plus e.ch4.0 to ch4) (e.n2o.0 to n2o) i
    ∙ ap (λ (v : ℕ). v + mass (e.n2o.0 to n2o) i) (get_d_plus co2 (e.ch4.0 to ch4) i)

pub co2_to_trace : (d : Destination) (v i : ℕ) → ch4 ≤ i → mass (co2_to d v) i ≡ 0
co2_to_trace Fossil v i l = to_other v 0 i (λ e. omega arith)
co2_to_trace Biomass v i l = to_other v 1 i (λ e. omega arith)
co2_to_trace Nowhere v i l = refl

co2_to-le : (d : Destination) (v i : ℕ) → mass (co2_to d v) i ≤ v
co2_to-le Fossil v i = to_le v 0 i
co2_to-le Biomass v i = to_le v 1 i
co2_to-le Nowhere v i = zero-le

length-co2_to : (d : Destination) (v : ℕ) → length (co2_to d v) ≤ ledgers
length-co2_to Fossil v = omega (arith, length_to v 0)
length-co2_to Biomass v = omega (arith, length_to v 1)
length-co2_to Nowhere v = zero-le

pub length-gives : (o : Outcome) → length (gives o) ≤ ledgers
length-gives (Err k) = zero-le
length-gives (Ok e) =
    let co2 = length-co2_to e.destination (1000 * e.co2.0) in
    let with-ch4 = length_plus_le (co2_to e.destination (1000 * e.co2.0)) (e.ch4.0 to ch4) co2 (omega (arith, length_to e.ch4.0 ch4)) in
    length_plus_le _ (e.n2o.0 to n2o) with-ch4 (omega (arith, length_to e.n2o.0 n2o))

-- At any place all of the three masses but one are 0.
pub given-le : (o : Outcome) → Bounded o → (i : ℕ) → mass (gives o) i ≤ tonnes_each * tonne
given-le (Err k) b i = zero-le
given-le (Ok e) b i =
    let parts = given_parts e i in
    let co2 = co2_to-le e.destination (1000 * e.co2.0) i in
    let by_ch4 = to_le e.ch4.0 ch4 i in
    let by_n2o = to_le e.n2o.0 n2o i in
    let no_co2 = co2_to_trace e.destination (1000 * e.co2.0) i in
    let no-ch4 = to_other e.ch4.0 ch4 i in
    let no-n2o = to_other e.n2o.0 n2o i in
    if_eq i ch4
    (λ at. let none = no_co2 (omega arith) in let other = no-n2o (λ q. omega arith) in omega arith)
    (λ not-ch4.
    let other = no-ch4 not-ch4 in
    if_eq i n2o
    (λ at. let none = no_co2 (omega arith) in omega arith)
    (λ not-n2o. let last = no-n2o not-n2o in omega arith))

-- ---- counts within what a sound checkpoint allows
module _ {h : Head} {c : Counts} (f : CountsFit h c) where
  none_after : (o : Outcome) → (counted c o).aside ≡ 0 → ((counted c o).index ≡ 0) × ((counted c o).reason ≡ 0)
  unfolding counted
  none_after (Err r) e = absurd (omega arith)
  none_after (Ok e) z = f.none_first z

  some_after : (o : Outcome) → Bounded o → ((counted c o).aside ≡ 0 → ⊥)
      → ((counted c o).index < (counted c o).done) × (1 ≤ (counted c o).reason) × ((counted c o).reason ≤ last_reason)
  unfolding counted
  some_after (Err r) b e =
      if_eq c.aside 0
      (λ z. let told = counted-first c r z in omega arith)
      (λ z. let told = counted_later c r z in let before = f.some_first z in omega arith)
  some_after (Ok e) b z = let before = f.some_first z in omega arith

  aside_after : (o : Outcome) → (counted c o).aside ≤ (counted c o).done
  unfolding counted
  aside_after (Err r) = let l = f.aside_le in omega arith
  aside_after (Ok e) = let l = f.aside_le in omega arith

  counts_fit_counted : (o : Outcome) → c.done < h.n → Bounded o → CountsFit h (counted c o)
  counts_fit_counted o l b = record {
    done_le = omega (arith, counted_done c o);
    aside_le = aside_after o;
    none_first = none_after o;
    some_first = some_after o b;
  }

-- ---- a state within what a sound checkpoint allows
pub fit_for_fresh : (h : Head) → FitFor h fresh
unfolding fresh
fit_for_fresh h = record {
  counts_fit = record {
    done_le = zero-le;
    aside_le = zero-le;
    none_first = λ e. (refl, refl);
    some_first = λ e. absurd (e refl);
  };
  whole = length-each (λ i. 0) ledgers;
  masses_le = λ i l. omega (arith, zeros-each ledgers i);
}

-- One record more may hold so much more.
more_le : (d v x : ℕ) → v / tonne ≤ tonnes_each * d → x ≤ tonnes_each * tonne → (v + x) / tonne ≤ tonnes_each * (d + 1)
more_le d v x h l = omega arith

pub fit_for_after : (h : Head) (s : State) (o : Outcome) → s.counts.done < h.n → Bounded o → FitFor h s
    → FitFor h (after s o)
unfolding after
fit_for_after h s o l b f = record {
  counts_fit = counts_fit_counted f.counts_fit o l b;
  whole =
      let few = length-gives o in
      let full = f.whole in
      length_plus s.masses (gives o) (omega arith) ∙ full;
  masses_le = λ i l.
      let more = more_le s.counts.done (mass s.masses i) (mass (gives o) i) (f.masses_le i l) (given-le o b i) in
      omega (arith, get_d_plus s.masses (gives o) i, counted_done s.counts o);
}

pub fit_for_run : (h : Head) (k : List ℕ) (s : State) (n : ℕ) → opened k ≡ accepted h → s.counts.done + n ≤ h.n
    → FitFor h s → FitFor h (run h k s n)
unfolding run
fit_for_run h k s zero e l f = f
fit_for_run h k s (suc n) e l f =
    let place = (run h k s n).counts.done in
    fit_for_after h (run h k s n) (outcome_at h k place) (omega (arith, run_done h k s n))
    (bounded_outcome_at h k place e)
    (fit_for_run h k s n e (omega arith) f)

pub fit_for_first : (h : Head) (k : List ℕ) (n : ℕ) → opened k ≡ accepted h → n ≤ h.n
    → FitFor h (first h k n)
unfolding first
fit_for_first h k zero e l = fit_for_fresh h
fit_for_first h k (suc n) e l =
    fit_for_after h (first h k n) (outcome_at h k n) (omega (arith, first_done h k n))
    (bounded_outcome_at h k n e)
    (fit_for_first h k n e (omega arith))

-- ---- the first n records are summed
pub first-mass : (h : Head) (k : List ℕ) (n i : ℕ) → mass (first h k n).masses i ≡ sum_to (λ j. mass (gives (outcome_at h k j)) i) n
unfolding first fresh after sum_to
first-mass h k zero i = zeros-each ledgers i
first-mass h k (suc n) i =
    let o = outcome_at h k n in
    get_d_plus (first h k n).masses (gives o) i ∙ ap (λ (v : ℕ). v + mass (gives o) i) (first-mass h k n i)

counted_aside : (c : Counts) (o : Outcome) → (counted c o).aside ≡ c.aside + aside_of o
unfolding counted
counted_aside c (Err k) = refl
counted_aside c (Ok e) = sym (add-zero c.aside)

pub first_aside : (h : Head) (k : List ℕ) (n : ℕ) → (first h k n).counts.aside ≡ sum_to (λ j. aside_of (outcome_at h k j)) n
unfolding first fresh after sum_to
first_aside h k zero = refl
first_aside h k (suc n) =
    let o = outcome_at h k n in
    counted_aside (first h k n).counts o ∙ ap (λ (v : ℕ). v + aside_of o) (first_aside h k n)

-- ---- of the first n records, the first that is set aside is record i, for the reason with the number r
pub record FirstAside (h : Head) (k : List ℕ) (n i r : ℕ) : Type 0 where
  pub index_lt : i < n
  pub set_aside : (m : Reason) × (outcome_at h k i ≡ Err m) × (reason_number m ≡ r)
  pub none_before : (j : ℕ) → j < i → aside_of (outcome_at h k j) ≡ 0

sum_to-zero : (f : ℕ → ℕ) (n j : ℕ) → sum_to f n ≡ 0 → j < n → f j ≡ 0
unfolding sum_to
sum_to-zero f zero j e l = absurd (not-suc-le-zero l)
sum_to-zero f (suc n) j e l =
    if_lt j n
    (λ m. sum_to-zero f n j (omega arith) m)
    (λ m. let last : j ≡ n = omega arith in ap f last ∙ omega arith)

module _ (h : Head) (k : List ℕ) where
  first_aside_as : {n i r i' r' : ℕ} → i ≡ i' → r ≡ r' → FirstAside h k n i r → FirstAside h k n i' r'
  first_aside_as {n} {i} {r} {i'} p q a =
      subst (λ (x : ℕ). FirstAside h k n i' x) q (subst (λ (x : ℕ). FirstAside h k n x r) p a)

  first_aside_suc : {n i r : ℕ} → FirstAside h k n i r → FirstAside h k (suc n) i r
  first_aside_suc a = record {
    index_lt = let l = a.index_lt in omega arith;
    set_aside = a.set_aside;
    none_before = a.none_before;
  }

  first_aside_after : (n : ℕ) (o : Outcome) → outcome_at h k n ≡ o
      → (0 < (first h k n).counts.aside → FirstAside h k n (first h k n).counts.index (first h k n).counts.reason)
      → 0 < (counted (first h k n).counts o).aside
      → FirstAside h k (suc n) (counted (first h k n).counts o).index (counted (first h k n).counts o).reason
  unfolding counted
  first_aside_after n (Err r) e past l =
      let c = (first h k n).counts in
      if_eq c.aside 0
      (λ z.
      let told = counted-first c r z in
      let none = sym (first_aside h k n) ∙ z in
      first_aside_as (sym (told.0 ∙ first_done h k n)) (sym told.1) (record {
        index_lt = omega arith;
        set_aside = (r, e, refl);
        none_before = λ j m. sum_to-zero (λ i. aside_of (outcome_at h k i)) n j none m;
      }))
      (λ z.
      let told = counted_later c r z in
      first_aside_as (sym told.0) (sym told.1) (first_aside_suc (past (omega arith))))
  first_aside_after n (Ok x) e past l = first_aside_suc (past (omega arith))

  pub first_index : (n : ℕ) → 0 < (first h k n).counts.aside
      → FirstAside h k n (first h k n).counts.index (first h k n).counts.reason
  unfolding first fresh after
  first_index zero l = absurd (not-suc-le-zero l)
  first_index (suc n) l = first_aside_after n (outcome_at h k n) refl (first_index n) l
