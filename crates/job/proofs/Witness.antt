-- The promises aren't empty: the book that docs/FORMAT.md prints, "One book", is accepted, goes to its
-- end in one wake, and has the report that the requirements print. Its head and outcome are known in
-- `rules` and its figures in `mass`; the demands and the laws of histories say all else. Assumes nothing.
use Prim.Native.Nat.{ℕ, ◌+◌, ◌-◌, ◌*◌, ◌<◌, ◌≤◌, min}
use mathlib.Core.List.{List, [], ◌∷◌}
use mathlib.Core.Path.{◌≡◌, refl, ap, ◌∙◌}
use native.Mathlib.Omega.{arith}
use lib.Dec.{lit<}
use lib.ListN.{length}
use Rattle.choice.specs.Tests.{choose}
use Rattle.choice.proofs.TestsLaws.{choose_f}
use Rattle.mass.specs.declared.figures.Warming.{Warming}
use Rattle.mass.specs.Figures.{kg_of, must_report}
use Rattle.mass.proofs.Cases as cases
use Rattle.rules.specs.declared.book.Head.{Head}
use Rattle.rules.specs.Outcome.{Outcome}
use Rattle.rules.specs.Book.{accepted, opened}
use Rattle.rules.specs.Record.{outcome_at}
use Rattle.rules.proofs.Cases.{counted}
use Rattle.rules.proofs.Sample.{sample_book, sample_head, opened_sample_book, outcome_at_sample_book}
use Rattle.rules.proofs.Sample.{empty_book, empty_head, opened_empty_book}
use Rattle.job.specs.State.{◌to◌, ◌plus◌, mass, fossil, biomass, ch4, n2o, gives, aside_of, sum_to}
use Rattle.job.specs.Checkpoint.{checkpoint_size, done_in, decode}
use Rattle.job.specs.Reply.{Reply, reply}
use Rattle.job.specs.Wake.{fresh_reply, fresh_bytes, wake_reply, wake_bytes}
use Rattle.job.specs.Report.{warming_of, report_reply}
use Rattle.job.specs.History.{InTurn}
use Rattle.job.proofs.ReportLaws.{warming_of-first}
use Rattle.job.proofs.HistoryLaws.{past_in_turn, done_in_in_turn}
use Rattle.job.proofs.Demands.{Demand2, Demand3, demand1, demand2, demand3}

-- The report of four masses in ng, under the warming values w.
abbrev pub figures : Warming → ℕ → ℕ → ℕ → ℕ → Reply
figures w f b c n =
    let e = f + b + w.ch4 * c + w.n2o * n in
    reply 0 ((kg_of f).0 ∷ (kg_of b).0 ∷ (kg_of c).0 ∷ (kg_of n).0 ∷ (kg_of e).0 ∷ choose (must_report e b) 1 0 ∷ [])

-- ---- what the demands say of an accepted book after a fresh start and after a wake to its end
module _ (k : List ℕ) (h : Head) (e : opened k ≡ accepted h) where
  demands : (t : ℕ) (c : List ℕ) → InTurn k t c → Demand2 k h c × Demand3 k h c
  demands t c turns =
      let past = past_in_turn k t c turns in (
        demand2 k h e past.left c past.history past.among,
        demand3 k h e past.left c past.history past.among,
      )

  -- What all records give to a ledger.
  abbrev sum : (Outcome → ℕ) → ℕ
  sum g = sum_to (λ i. g (outcome_at h k i)) h.n

  module _ (out : List ℕ) (o : length out ≡ checkpoint_size) where
    abbrev start : List ℕ
    start = fresh_bytes k out

    begun : InTurn k 0 start
    begun = InTurn.begun (record { out = out; accepts = (demand1 k out 0 out).accepts_fresh h e o; saves = refl })

    none_done : done_in start ≡ 0
    none_done = let at = done_in_in_turn k h e 0 start begun in omega arith

    report_reply-start : 0 < h.n → report_reply k start ≡ reply 40 (0 ∷ [])
    report_reply-start l =
        let at = none_done in
        (demands 0 start begun).0.report.unfinished (omega arith) ∙ ap (λ (d : ℕ). reply 40 (d ∷ [])) at

    module _ (next : List ℕ) (p : length next ≡ checkpoint_size) (b : ℕ) (l : h.n ≤ b) where
      abbrev end : List ℕ
      end = wake_bytes k start b next

      wake_reply-start : wake_reply k start b next ≡ reply 0 (h.n ∷ [])
      wake_reply-start =
          let at = none_done in
          let all : min (done_in start + b) h.n - done_in start ≡ h.n = omega arith in
          (demands 0 start begun).1.accepts b next p ∙ ap (λ (m : ℕ). reply 0 (m ∷ [])) all

      ended : InTurn k (0 + b) end
      ended = InTurn.woken begun (record { out = next; accepts = wake_reply-start; saves = refl })

      all_done : done_in end ≡ h.n
      all_done = let at = done_in_in_turn k h e (0 + b) end ended in omega arith

      whole : (g : Outcome → ℕ) {v w : ℕ} → v ≡ sum_to (λ i. g (outcome_at h k i)) (done_in end) → sum g ≡ w → v ≡ w
      whole g q r = q ∙ ap (sum_to (λ i. g (outcome_at h k i))) all_done ∙ r

      -- The masses of the ledgers at the end, given to a report.
      report_reply_end : {m : ℕ → ℕ} → ((i : ℕ) → sum (λ o. mass (gives o) i) ≡ m i) → sum aside_of ≡ 0
          → report_reply k end ≡ figures (warming_of h.warming) (m fossil) (m biomass) (m ch4) (m n2o)
      report_reply_end {m} masses none =
          let says = (demands (0 + b) end ended).0 in
          let at : (i : ℕ) → mass (decode end).masses i ≡ m i = λ i. whole (λ o. mass (gives o) i) (says.ledger i) (masses i) in
          says.report.given all_done (whole aside_of says.aside none)
          ∙ (λ i. figures (warming_of h.warming) (at fossil i) (at biomass i) (at ch4 i) (at n2o i))

-- ---- what the one record gives
sum_sample_book : (g : Outcome → ℕ)
    → sum_to (λ i. g (outcome_at sample_head sample_book i)) 1 ≡ 0 + g (counted 1 1900000000000 34200000000 3420000000)
unfolding sum_to
sum_sample_book g = ap (λ (x : Outcome). 0 + g x) outcome_at_sample_book

figures_sample_book : figures (warming_of 0) 1900000000000000 0 34200000000 3420000000 ≡ reply 0 (1900 ∷ 0 ∷ 0 ∷ 0 ∷ 1902 ∷ 0 ∷ [])
figures_sample_book =
    rw (warming_of-first, cases.p1_co2_kg, cases.nothing_kg, cases.p1_ch4_kg, cases.p1_n2o_kg, cases.p1_co2e_kg)
    (ap (λ (m : ℕ). reply 0 (1900 ∷ 0 ∷ 0 ∷ 0 ∷ 1902 ∷ m ∷ [])) (choose_f 1 cases.p1_reports refl))

-- ---- the witness
-- out and next are buffers of 96 bytes, whatever they held, and b is a budget above 0.
pub record Witness (out next : List ℕ) (b : ℕ) : Type 0 where
  -- A fresh start of the book is accepted.
  pub starts : fresh_reply sample_book out ≡ reply 0 []
  -- The report of the checkpoint that it saves is withheld, as no record is done.
  pub waits : report_reply sample_book (fresh_bytes sample_book out) ≡ reply 40 (0 ∷ [])
  -- A wake from this checkpoint is accepted, and goes through the book's one record.
  pub wakes : wake_reply sample_book (fresh_bytes sample_book out) b next ≡ reply 0 (1 ∷ [])
  -- The report of the checkpoint that this saves: 1,900 kg of fossil CO2; no biomass CO2, and less than
  -- half a kilogram of CH4 and of N2O; 1,902 kg of CO2 equivalent; the site need not report.
  pub reports : report_reply sample_book (wake_bytes sample_book (fresh_bytes sample_book out) b next)
      ≡ reply 0 (1900 ∷ 0 ∷ 0 ∷ 0 ∷ 1902 ∷ 0 ∷ [])

pub witness : (out next : List ℕ) (b : ℕ) → length out ≡ checkpoint_size → length next ≡ checkpoint_size → 1 ≤ b → Witness out next b
unfolding ◌to◌ ◌plus◌
witness out next b o p l = record {
  starts = (demand1 sample_book out b out).accepts_fresh sample_head opened_sample_book o;
  waits = report_reply-start sample_book sample_head opened_sample_book out o (lit< tt);
  wakes = wake_reply-start sample_book sample_head opened_sample_book out o next p b l;
  reports =
      report_reply_end sample_book sample_head opened_sample_book out o next p b l
      (λ i. sum_sample_book (λ x. mass (gives x) i)) (sum_sample_book aside_of)
      ∙ figures_sample_book;
}

-- ---- a book with no record, which is at its end at once
figures_empty_book : figures (warming_of 0) 0 0 0 0 ≡ reply 0 (0 ∷ 0 ∷ 0 ∷ 0 ∷ 0 ∷ 0 ∷ [])
figures_empty_book =
    rw (warming_of-first, cases.nothing_kg)
    (ap (λ (m : ℕ). reply 0 (0 ∷ 0 ∷ 0 ∷ 0 ∷ 0 ∷ m ∷ [])) (choose_f 1 cases.nothing_reports refl))

pub report_reply_empty_book : (out next : List ℕ) → length out ≡ checkpoint_size → length next ≡ checkpoint_size
    → report_reply empty_book (wake_bytes empty_book (fresh_bytes empty_book out) 0 next)
    ≡ reply 0 (0 ∷ 0 ∷ 0 ∷ 0 ∷ 0 ∷ 0 ∷ [])
unfolding sum_to
report_reply_empty_book out next o p =
    report_reply_end empty_book empty_head opened_empty_book out o next p 0 (omega arith) (λ i. refl) refl
    ∙ figures_empty_book
