-- A run, record by record and in legs. Assumes nothing.
use Prim.Native.Nat.{ℕ, zero, suc, ◌+◌, ◌-◌, ◌*◌, ◌<◌, ◌≤◌}
use mathlib.Core.List.{List}
use mathlib.Core.Path.{◌≡◌, refl, sym, ap, ◌∙◌, subst}
use native.Mathlib.Numerals.{add-one}
use native.Mathlib.Omega.{arith}
use lib.ListN.{replicate}
use Rattle.rules.specs.declared.book.Head.{Head}
use Rattle.rules.specs.Outcome.{Outcome}
use Rattle.rules.specs.Book.{opened, accepted}
use Rattle.rules.specs.Record.{outcome_at}
use Rattle.rules.proofs.BookLaws.{accepted_facts}
use Rattle.job.specs.declared.counts.Counts.{Counts}
use Rattle.job.specs.State.{◌plus◌, each, State, ledgers, gives, fresh, counted, after, run}
use Rattle.job.specs.Bounds.{FitFor}
use Rattle.job.specs.Checkpoint.{checkpoint_size, ledger_place, done_in, decode, encode, counts_in, mass_in}
use Rattle.job.specs.Wake.{admitted_for}
use Rattle.job.specs.Words.{words, carries_each, mass_at, counts_at, state_in, masses_on, state_on, Light, Gone}
use Rattle.job.proofs.PlacesLaws.{plus_assoc, length-each, get_d_each, each_same, each-each}
use Rattle.job.proofs.PutLaws.{word_blank}
use Rattle.job.proofs.StateLaws.{run_done, run-run, fit_for_run}
use Rattle.job.proofs.CheckpointLaws.{sound_for_sound, fit_for_sound}
use Rattle.job.proofs.WordsLaws.{mass_at-blank, kept-blank}
use Rattle.job.proofs.WakeLaws.{records_le, head_fits}
use Rattle.job.proofs.AdmissionLaws.{admitted_for_so}
use Rattle.job.proofs.LegLaws.{reason_lt}

-- ---- there is a next record while i of n are done
pub next_run : {x : State} (h : Head) (k : List ℕ) (s : State) (n i : ℕ) → opened k ≡ accepted h → FitFor h s
    → s.counts.done + n ≤ h.n → i < n → x ≡ run h k s i → FitFor h x × (x.counts.done < h.n)
next_run h k s n i e f l m q =
    subst (λ (x : State). FitFor h x × (x.counts.done < h.n)) (sym q)
    (fit_for_run h k s i e (omega arith) f, omega (arith, run_done h k s i))

-- ---- a place in a book fits 32 bits
pub place_lt : (h : Head) (k : List ℕ) (m : ℕ) → opened k ≡ accepted h → m ≤ h.n → m < 4294967296
place_lt h k m o l = let known = accepted_facts k h o in omega arith

-- ---- the records of a run from place a on to u, of which d - a are gone through
-- Over plain numbers, since at a need `omega` stops at the bounds of the ledgers.
pub gone_first : (a : ℕ) → 0 ≡ a - a
gone_first a = omega arith

pub gone_all : {a b : ℕ} (n : ℕ) → a ≡ b → a + n - b ≡ n
gone_all n e = omega arith

pub gone_of : (a d u : ℕ) → a ≤ d → d < u → d - a < u - a
gone_of a d u h l = omega arith

pub gone_none : (a u n : ℕ) → a ≤ u → u ≤ n → a + (u - a) ≤ n
gone_none a u n h l = omega arith

pub run-suc : {x y : State} (h : Head) (k : List ℕ) (s : State) (i : ℕ) → x ≡ run h k s i
    → y ≡ after x (outcome_at h k x.counts.done) → y ≡ run h k s (i + 1)
unfolding run
run-suc h k s i e q =
    rw add-one (q ∙ ap (λ (z : State). after z (outcome_at h k z.counts.done)) e)

-- ---- a run in two legs: from place a to d, and from there on to u
pub run_legs : {x y : State} (h : Head) (k : List ℕ) (s : State) (a d u : ℕ) → a ≤ d → d ≤ u → x ≡ run h k s (d - a)
    → y ≡ run h k x (u - d) → y ≡ run h k s (u - a)
run_legs h k s a d u l m e q =
    let whole : d - a + (u - d) ≡ u - a = omega arith in
    q
    ∙ ap (λ (z : State). run h k z (u - d)) e
    ∙ run-run h k s (d - a) (u - d)
    ∙ ap (run h k s) whole

-- ---- from a checkpoint f on, by what records give alone
-- A state with the masses a more.
abbrev onto : List ℕ → State → State
onto a s = record { counts = s.counts; masses = a plus s.masses }

after_onto : (a : List ℕ) (s : State) (o : Outcome) → after (onto a s) o ≡ onto a (after s o)
unfolding after
after_onto a s o =
    let ms = plus_assoc a s.masses (gives o) in
    λ i. record { counts = counted s.counts o; masses = ms i }

run_onto : (h : Head) (k a : List ℕ) (s : State) (n : ℕ) → run h k (onto a s) n ≡ onto a (run h k s n)
unfolding run
run_onto h k a s zero = refl
run_onto h k a s (suc n) =
    ap (λ (x : State). after x (outcome_at h k x.counts.done)) (run_onto h k a s n)
    ∙ after_onto a (run h k s n) (outcome_at h k (run h k s n).counts.done)

abbrev pub begun : List ℕ → State
begun f = state_in (counts_in f) (replicate words 0)

state_on_onto : (r : Counts) (f v : List ℕ) → state_on r f v ≡ onto (each (mass_in f) ledgers) (state_in r v)
unfolding state_on masses_on state_in
state_on_onto r f v = let ms = each-each (mass_in f) (mass_at v) ledgers in λ i. record { counts = r; masses = ms i }

pub state_on-blank : (t : Counts) (f : List ℕ) → state_on t f (replicate words 0) ≡ record { counts = t; masses = (decode f).masses }
unfolding state_on masses_on decode
state_on-blank t f =
    let ms = each_same (λ i. mass_in f i + mass_at (replicate words 0) i) (mass_in f) ledgers (λ i l. omega (arith, mass_at-blank i l)) in
    λ i. record { counts = t; masses = ms i }

-- A fresh start: nothing said, and nothing given.
nothing : (i : ℕ) → i < ledgers → mass_in (replicate checkpoint_size 0) i + mass_at (replicate words 0) i ≡ 0
nothing i l =
    omega (arith, mass_at-blank i l, word_blank checkpoint_size (ledger_place i) 8, word_blank checkpoint_size (ledger_place i + 8) 8)

pub state_on-fresh : state_on (counts_at 0 (record { count = 0; index = 0; reason = 0 })) (replicate checkpoint_size 0) (replicate words 0) ≡ fresh
unfolding state_on masses_on fresh
state_on-fresh =
    let ms = each_same (λ i. mass_in (replicate checkpoint_size 0) i + mass_at (replicate words 0) i) (λ i. 0) ledgers nothing in
    λ i. record { counts = record { done = 0; aside = 0; index = 0; reason = 0 }; masses = ms i }

pub light_fresh : Light (replicate checkpoint_size 0) (replicate words 0)
light_fresh i l =
    let none = nothing i l in
    (omega (arith, word_blank checkpoint_size (ledger_place i + 8) 8), omega arith, (kept-blank 0).low i l)

decode_onto : (f : List ℕ) → decode f ≡ onto (each (mass_in f) ledgers) (begun f)
unfolding decode
decode_onto f = sym (state_on-blank (counts_in f) f) ∙ state_on_onto (counts_in f) f (replicate words 0)

pub fit_for_begun : (h : Head) (f : List ℕ) → FitFor h (decode f) → FitFor h (begun f)
unfolding decode state_in
fit_for_begun h f t = record {
  counts_fit = t.counts_fit;
  whole = length-each (mass_at (replicate words 0)) ledgers;
  masses_le = λ i l. omega (arith, get_d_each (mass_at (replicate words 0)) ledgers i l, mass_at-blank i l);
}

pub gone_none_yet : (h : Head) (k f : List ℕ) (c : Counts) → c ≡ counts_in f → Gone h k f c (replicate words 0)
unfolding run
gone_none_yet h k f c e =
    let at : c.done ≡ done_in f = ap (λ (t : Counts). t.done) e in
    let none : 0 ≡ c.done - done_in f = omega arith in
    record {
      place = omega arith;
      state = ap (λ (t : Counts). state_in t (replicate words 0)) e ∙ ap (run h k (begun f)) none;
      kept = kept-blank (carries_each * c.done);
    }

-- What the checkpoint said and what the records give are what to write.
module _ (h : Head) (k f : List ℕ) (o : opened k ≡ accepted h) (a : admitted_for h f ≡ accepted h)
    (c : Counts) (w : List ℕ) (g : Gone h k f c w) where
  state_on_gone : state_on c f w ≡ run h k (decode f) (c.done - done_in f)
  state_on_gone =
      state_on_onto c f w
      ∙ ap (onto (each (mass_in f) ledgers)) g.state
      ∙ sym (run_onto h k (each (mass_in f) ledgers) (begun f) (c.done - done_in f))
      ∙ ap (λ (x : State). run h k x (c.done - done_in f)) (sym (decode_onto f))

  -- So it is with what is written, where all records up to place u are gone through.
  pub encode_gone : {r : List ℕ} {u : ℕ} → r ≡ encode h (state_on c f w) → c.done ≡ u
      → r ≡ encode h (run h k (decode f) (u - done_in f))
  encode_gone written all =
      written
      ∙ ap (encode h) state_on_gone
      ∙ ap (λ (n : ℕ). encode h (run h k (decode f) (n - done_in f))) all

  fit_for_decode : FitFor h (decode f)
  fit_for_decode = fit_for_sound h f (admitted_for_so h f a)

  pub fit_for_gone : c.done ≤ h.n → FitFor h (state_in c w)
  unfolding state_in
  fit_for_gone l =
      let place = g.place in
      subst (FitFor h) (sym g.state) (fit_for_run h k (begun f) (c.done - done_in f) o (omega arith) (fit_for_begun h f fit_for_decode))

  pub fits_gone : c.done ≤ h.n → (h.length < 4294967296) × (h.year < 65536) × (c.reason < 256)
  unfolding state_in
  fits_gone l = let fit = head_fits k h o in (fit.0, fit.1, reason_lt h c (fit_for_gone l).counts_fit)

  pub light_gone : c.done ≤ h.n → Light f w
  unfolding decode state_on masses_on
  light_gone l i p =
      let place = g.place in
      let there = fit_for_run h k (decode f) (c.done - done_in f) o (omega arith) fit_for_decode in
      let fit = subst (FitFor h) (sym state_on_gone) there in
      let few = records_le k h o in (
        (sound_for_sound h f (admitted_for_so h f a)).canonical i p,
        omega (arith, fit.masses_le i p, get_d_each (λ j. mass_in f j + mass_at w j) ledgers i p),
        g.kept.low i p,
      )
