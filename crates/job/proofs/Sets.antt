-- The set of warming values decides: of checkpoints that no wake made, with tonnes of CH4 or of N2O alone, one set
-- asks for a report and the other doesn't, both ways. Assumes nothing.
use Prim.Native.Nat.{ℕ, zero, suc, ◌+◌, ◌*◌, ◌/◌, ◌<◌, ◌≤◌}
use mathlib.Core.List.{List, [], ◌∷◌}
use mathlib.Core.Path.{◌≡◌, refl, ap, ◌∙◌}
use native.Mathlib.Nat.{mul_assoc}
use native.Mathlib.Omega.{arith}
use lib.Dec.{lit<, lit≤}
use Rattle.choice.specs.Tests.{choose}
use Rattle.choice.proofs.TestsLaws.{choose_t, choose_f}
use Rattle.mass.specs.Ledger.{tonne, tonnes_each}
use Rattle.mass.specs.Figures.{must_report}
use Rattle.mass.proofs.FiguresLaws.{must_report-none, kg_of_tonnes}
use Rattle.mass.proofs.Cases as cases
use Rattle.rules.specs.Book.{accepted, opened}
use Rattle.rules.proofs.ApartLaws.{naming}
use Rattle.rules.proofs.Sample.{sample_book, sample_head, opened_sample_book, second_book, opened_second_book}
use Rattle.job.specs.State.{mass, State, ledgers, fossil, biomass, ch4, n2o}
use Rattle.job.specs.Bounds.{FitFor}
use Rattle.job.specs.Checkpoint.{sound, decode, encode}
use Rattle.job.specs.Reply.{reply}
use Rattle.job.specs.Report.{warming_of, report_reply}
use Rattle.job.proofs.CheckpointLaws.{length-encode, decode-encode, sound-encode}
use Rattle.job.proofs.WakeLaws.{records_le}
use Rattle.job.proofs.ReportLaws.{warming_of-first, warming_of_second}
use Rattle.job.proofs.Demands.{demand1}
use Rattle.job.proofs.Witness.{figures}

-- ---- a state of so many tonnes of CH4 and of N2O alone, and a checkpoint that says it
abbrev pub only : ℕ → ℕ → State
only c n = record {
  counts = record { done = 1; aside = 0; index = 0; reason = 0 };
  masses = 0 ∷ 0 ∷ c * tonne ∷ n * tonne ∷ [];
}

abbrev pub made_up : ℕ → ℕ → List ℕ
made_up c n = encode sample_head (only c n)

module _ (c n : ℕ) (l : c ≤ tonnes_each) (m : n ≤ tonnes_each) where
  masses-fit : (i : ℕ) → i < ledgers → mass (only c n).masses i / tonne ≤ tonnes_each * 1
  masses-fit zero h = lit≤ tt
  masses-fit (suc zero) h = lit≤ tt
  masses-fit (suc (suc zero)) h = omega arith
  masses-fit (suc (suc (suc zero))) h = omega arith
  masses-fit (suc (suc (suc (suc i)))) h = absurd (omega arith)

  fits : FitFor sample_head (only c n)
  fits = record {
    counts_fit = record {
      done_le = lit≤ tt;
      aside_le = lit≤ tt;
      none_first = λ z. (refl, refl);
      some_first = λ z. absurd (z refl);
    };
    whole = refl;
    masses_le = masses-fit;
  }

  report_reply_only : (k : List ℕ) (w : ℕ) → opened k ≡ accepted (naming w sample_head)
      → report_reply k (made_up c n) ≡ figures (warming_of w) 0 0 (c * tonne) (n * tonne)
  unfolding sound decode
  report_reply_only k w e =
      let few = records_le sample_book sample_head opened_sample_book in
      let good = sound-encode sample_head (only c n) fits few (lit< tt) (lit< tt) in
      let says = decode-encode sample_head (only c n) fits few in
      let told = (demand1 k (made_up c n) 0 (made_up c n)).accepts_report _ e (length-encode sample_head (only c n) refl) good in
      told.given (ap (λ (s : State). s.counts.done) says) (ap (λ (s : State). s.counts.aside) says)
      ∙ (λ i. let m = (says i).masses in figures (warming_of w) (mass m fossil) (mass m biomass) (mass m ch4) (mass m n2o))

-- ---- the figures of whole tonnes
figures_tonnes : (w : ℕ) {x y : ℕ} → warming_of w ≡ record { ch4 = x; n2o = y } → (c n d : ℕ) {m : ℕ}
    → choose (must_report (d * tonne) 0) 1 0 ≡ m → x * c + y * n ≡ d
    → figures (warming_of w) 0 0 (c * tonne) (n * tonne)
    ≡ reply 0 (0 ∷ 0 ∷ c * 1000 ∷ n * 1000 ∷ d * 1000 ∷ m ∷ [])
figures_tonnes w {x} {y} set c n d reports sum =
    let all : 0 + 0 + x * (c * tonne) + y * (n * tonne) ≡ d * tonne =
    omega (arith, mul_assoc x c tonne, mul_assoc y n tonne) in
    rw (set, all, reports, kg_of_tonnes c, kg_of_tonnes n, kg_of_tonnes d, cases.nothing_kg) refl

-- ---- the set decides
pub record Sets : Type 0 where
  -- 400 t of CH4 are 8,400 t of CO2 equivalent under the first set, and the site need not report; under the second
  -- they are 10,000 t, and it must.
  pub ch4_first : report_reply sample_book (made_up 400 0) ≡ reply 0 (0 ∷ 0 ∷ 400000 ∷ 0 ∷ 8400000 ∷ 0 ∷ [])
  pub ch4_second : report_reply second_book (made_up 400 0) ≡ reply 0 (0 ∷ 0 ∷ 400000 ∷ 0 ∷ 10000000 ∷ 1 ∷ [])
  -- 33 t of N2O are 10,230 t under the first set, and the site must report; under the second they are 9,834 t, and it
  -- need not.
  pub n2o_first : report_reply sample_book (made_up 0 33) ≡ reply 0 (0 ∷ 0 ∷ 0 ∷ 33000 ∷ 10230000 ∷ 1 ∷ [])
  pub n2o_second : report_reply second_book (made_up 0 33) ≡ reply 0 (0 ∷ 0 ∷ 0 ∷ 33000 ∷ 9834000 ∷ 0 ∷ [])

pub sets : Sets
sets = record {
  ch4_first =
      report_reply_only 400 0 (lit≤ tt) (lit≤ tt) sample_book 0 opened_sample_book
      ∙ figures_tonnes 0 warming_of-first 400 0 8400 (choose_f 1 (must_report-none 8400) refl) refl;
  ch4_second =
      report_reply_only 400 0 (lit≤ tt) (lit≤ tt) second_book 1 opened_second_book
      ∙ figures_tonnes 1 warming_of_second 400 0 10000 (choose_t 0 (must_report-none 10000) refl) refl;
  n2o_first =
      report_reply_only 0 33 (lit≤ tt) (lit≤ tt) sample_book 0 opened_sample_book
      ∙ figures_tonnes 0 warming_of-first 0 33 10230 (choose_t 0 (must_report-none 10230) refl) refl;
  n2o_second =
      report_reply_only 0 33 (lit≤ tt) (lit≤ tt) second_book 1 opened_second_book
      ∙ figures_tonnes 1 warming_of_second 0 33 9834 (choose_f 1 (must_report-none 9834) refl) refl;
}
