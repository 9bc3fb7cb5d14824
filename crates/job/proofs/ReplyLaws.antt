-- The reply of each answer; each is of one answer only, and none both refuses and accepts.
-- Assumes nothing.
use Prim.Native.Nat.{ℕ, ◌<◌}
use mathlib.Core.Bool.{Bool, true, false}
use mathlib.Core.List.{List, [], ◌∷◌}
use Rattle.std.specs.Prelude.{Result, Ok, Err}
use mathlib.Core.Path.{◌≡◌, refl, sym, ap, ◌∙◌}
use native.Mathlib.Omega.{arith}
use lib.Dec.{eqb}
use Rattle.choice.specs.Tests.{choose}
use Rattle.choice.proofs.TestsLaws.{choose_t, choose_f}
use Rattle.mass.specs.declared.figures.Figures.{Figures}
use Rattle.rules.specs.declared.book.Fault.TheVariants.{Length, Trailer, Units, Fuels}
use Rattle.job.specs.declared.reply.Refusal.{Refusal}
use Rattle.job.specs.declared.reply.Refusal.TheVariants.{Book, CheckpointLength, CheckpointUnsound, BufferLength}
use Rattle.job.specs.declared.reply.Report.{Report}
use Rattle.job.specs.declared.reply.Report.TheVariants.{Unfinished, RecordAside, Given}
use Rattle.job.specs.Reply.{Reply, reply, refusal_number, figure_values, started, woken, reported, remaining}

-- ---- the reply of each answer
pub started-refused : (x : Refusal) → started (Err x) ≡ reply (refusal_number x) []
unfolding started
started-refused x = refl

pub started-fresh : started (Ok tt) ≡ reply 0 []
unfolding started
started-fresh = refl

pub woken-refused : (x : Refusal) → woken (Err x) ≡ reply (refusal_number x) []
unfolding woken
woken-refused x = refl

pub woken-moved : (m : ℕ) → woken (Ok m) ≡ reply 0 (m ∷ [])
unfolding woken
woken-moved m = refl

pub reported-refused : (x : Refusal) → reported (Err x) ≡ reply (refusal_number x) []
unfolding reported
reported-refused x = refl

pub reported_unfinished : (d : ℕ) → reported (Ok (Unfinished d)) ≡ reply 40 (d ∷ [])
unfolding reported
reported_unfinished d = refl

pub reported_record_aside : (i k : ℕ) → reported (Ok (RecordAside i k)) ≡ reply 41 (i ∷ k ∷ [])
unfolding reported
reported_record_aside i k = refl

pub reported-given : (f : Figures) → reported (Ok (Given f)) ≡ reply 0 (figure_values f)
unfolding reported
reported-given f = refl

-- An answer that is `Ok`, by what is known of the report in it.
pub report_known : {r : Result Report Refusal} {p q : Report} → r ≡ Ok p → p ≡ q → r ≡ Ok q
report_known e f = e ∙ ap Ok f

-- A wake and a count of the records left reply a count alike.
pub woken_remaining : (r : Result ℕ Refusal) → woken r ≡ remaining r
unfolding woken remaining
woken_remaining (Err x) = refl
woken_remaining (Ok m) = refl

pub figure_values_six : (f : Figures) {m : ℕ} → choose f.reportable 1 0 ≡ m
    → figure_values f
    ≡ (f.fossil.0 ∷ f.biomass.0 ∷ f.ch4.0 ∷ f.n2o.0 ∷ f.co2e.0 ∷ m ∷ [])
unfolding figure_values
figure_values_six f e = ap (λ (m : ℕ). f.fossil.0 ∷ f.biomass.0 ∷ f.ch4.0 ∷ f.n2o.0 ∷ f.co2e.0 ∷ m ∷ []) e

-- ---- the parts of a reply
number : Reply → ℕ
number (reply n vs) = n

pub refused_0 : {r : Reply} {n : ℕ} {us vs : List ℕ} → r ≡ reply 0 us → r ≡ reply n vs → 0 < n → ⊥
unfolding number
refused_0 p q l = let e = sym (ap number p) ∙ ap number q in omega arith

first_value : Reply → ℕ
first_value (reply n []) = 0
first_value (reply n (m ∷ vs)) = m

pub one_first : {r : Reply} {m n a b : ℕ} {us vs : List ℕ} → reply m (a ∷ us) ≡ r → reply n (b ∷ vs) ≡ r → a ≡ b
unfolding first_value
one_first p q = ap first_value p ∙ sym (ap first_value q)

-- ---- the answer that a reply stands for
pick : {A : Type 0} → Bool → A → A → A
pick true x y = x
pick false x y = y

refusal : ℕ → Refusal
refusal n =
    pick (eqb n 20) (Book Length)
    (pick (eqb n 21) (Book Trailer)
    (pick (eqb n 22) (Book Units)
    (pick (eqb n 23) (Book Fuels)
    (pick (eqb n 30) CheckpointLength
    (pick (eqb n 31) CheckpointUnsound
    BufferLength)))))

refusal_number_told : (x : Refusal) → refusal (refusal_number x) ≡ x
unfolding refusal pick
refusal_number_told (Book Length) = refl
refusal_number_told (Book Trailer) = refl
refusal_number_told (Book Units) = refl
refusal_number_told (Book Fuels) = refl
refusal_number_told CheckpointLength = refl
refusal_number_told CheckpointUnsound = refl
refusal_number_told BufferLength = refl

-- ---- a fresh start
begun : Reply → Result (Unit {0}) Refusal
begun (reply n vs) = pick (eqb n 0) (Ok tt) (Err (refusal n))

begun-started : (r : Result (Unit {0}) Refusal) → begun (started r) ≡ r
unfolding begun pick refusal started
begun-started (Err (Book Length)) = refl
begun-started (Err (Book Trailer)) = refl
begun-started (Err (Book Units)) = refl
begun-started (Err (Book Fuels)) = refl
begun-started (Err CheckpointLength) = refl
begun-started (Err CheckpointUnsound) = refl
begun-started (Err BufferLength) = refl
begun-started (Ok tt) = refl

pub started_inj : (r s : Result (Unit {0}) Refusal) → started r ≡ started s → r ≡ s
started_inj r s e = sym (begun-started r) ∙ ap begun e ∙ begun-started s

-- ---- a wake
moved : Reply → Result ℕ Refusal
moved (reply n []) = Err (refusal n)
moved (reply n (m ∷ vs)) = Ok m

moved-woken : (r : Result ℕ Refusal) → moved (woken r) ≡ r
unfolding moved woken
moved-woken (Err x) = ap Err (refusal_number_told x)
moved-woken (Ok m) = refl

pub woken_inj : (r s : Result ℕ Refusal) → woken r ≡ woken s → r ≡ s
woken_inj r s e = sym (moved-woken r) ∙ ap moved e ∙ moved-woken s

-- ---- a report
said : Reply → Result Report Refusal
said (reply n []) = Err (refusal n)
said (reply n (a ∷ [])) = Ok (Unfinished a)
said (reply n (a ∷ b ∷ [])) = Ok (RecordAside a b)
said (reply n (a ∷ b ∷ c ∷ [])) = Err (refusal n)
said (reply n (a ∷ b ∷ c ∷ d ∷ [])) = Err (refusal n)
said (reply n (a ∷ b ∷ c ∷ d ∷ e ∷ [])) = Err (refusal n)
said (reply n (a ∷ b ∷ c ∷ d ∷ e ∷ m ∷ vs)) = Ok (Given (record {
  fossil = record { 0 = a };
  biomass = record { 0 = b };
  ch4 = record { 0 = c };
  n2o = record { 0 = d };
  co2e = record { 0 = e };
  reportable = eqb m 1;
}))

one_or-none : (t : Bool) → eqb (choose t 1 0) 1 ≡ t
one_or-none true = ap (λ (m : ℕ). eqb m 1) (choose_t 0 refl refl)
one_or-none false = ap (λ (m : ℕ). eqb m 1) (choose_f 1 refl refl)

said_reported : (r : Result Report Refusal) → said (reported r) ≡ r
unfolding said reported figure_values
said_reported (Err x) = ap Err (refusal_number_told x)
said_reported (Ok (Unfinished d)) = refl
said_reported (Ok (RecordAside i k)) = refl
said_reported (Ok (Given f)) = λ i. Ok (Given (record {
  fossil = f.fossil;
  biomass = f.biomass;
  ch4 = f.ch4;
  n2o = f.n2o;
  co2e = f.co2e;
  reportable = one_or-none f.reportable i;
}))

pub reported_inj : (r s : Result Report Refusal) → reported r ≡ reported s → r ≡ s
reported_inj r s e = sym (said_reported r) ∙ ap said e ∙ said_reported s

-- ---- a count of the records left
left : Reply → Result ℕ Refusal
left (reply n []) = Err (refusal n)
left (reply n (m ∷ vs)) = Ok m

left_remaining : (r : Result ℕ Refusal) → left (remaining r) ≡ r
unfolding left remaining
left_remaining (Err x) = ap Err (refusal_number_told x)
left_remaining (Ok m) = refl

pub remaining_inj : (r s : Result ℕ Refusal) → remaining r ≡ remaining s → r ≡ s
remaining_inj r s e = sym (left_remaining r) ∙ ap left e ∙ left_remaining s
