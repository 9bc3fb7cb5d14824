-- The three demands, as theorems. Read this file first.
--
-- k is a book, c a checkpoint, out the buffer lent for the next one, all as lists of bytes; b is a
-- budget. The code replies `fresh_reply`, `wake_reply`, `report_reply` and `left_reply`, leaves `fresh_bytes`
-- and `wake_bytes` in the buffer, and finds `outcome_at` and `sight_at` of single records: those are its
-- contracts, taken over below with their proofs. So what is said here of these is said of the code.
-- Their definitions, and those of a book, of a record's outcome and of a history, are what has to be
-- believed: docs/TRUST.md has the list. Witness.antt shows of one book that nothing here is empty.
--
-- Assumes nothing.
use Prim.Native.Nat.{ℕ, suc, ◌+◌, ◌-◌, ◌*◌, ◌<◌, ◌≤◌, min}
use mathlib.Core.Bool.{Bool, true, false}
use mathlib.Core.List.{List, [], ◌∷◌, Memᴰ}
use mathlib.Core.Logic.{◌↔◌}
use mathlib.Core.Path.{◌≡◌, sym, ap, ◌∙◌}
use lib.ListN.{length}
use Rattle.std.specs.Prelude.{Err}
use Rattle.choice.specs.Tests.{choose}
use Rattle.mass.specs.Figures.{kg_of, must_report}
use Rattle.rules.specs.declared.book.Head.{Head}
use Rattle.rules.specs.declared.record.Reason.{Reason}
use Rattle.rules.specs.Outcome.{reason_number}
use Rattle.rules.specs.Bytes.{line, lines, lines_in}
use Rattle.rules.specs.Fields.{warming_set}
use Rattle.rules.specs.Book.{length_ok, trailer_ok, unit_ok, fuel_ok, lines_sound, trailer, head_of, unit_lines, fuel_lines, refused, accepted, opened, SetApart}
use Rattle.rules.specs.Record.{outcome_at}
use Rattle.rules.specs.Reader.{numbered, shown, sight_at}
use Rattle.rules.specs.Right.{RightLines}
use Rattle.rules.specs.Reason.{Reasons}
use Rattle.rules.proofs.NumberLaws.{opened_20, opened_21, opened_22, opened_23, opened-number, opened-accepted}
use Rattle.rules.proofs.ApartLaws.{opened-apart, sight_at-apart}
use Rattle.rules.proofs.RightLaws.{lines_sound_right_lines}
use Rattle.rules.proofs.ReaderLaws.{sight_at-shown}
use Rattle.rules.proofs.ReasonLaws.{reasons_outcome_at}
use Rattle.job.specs.State.{mass, State, fossil, biomass, ch4, n2o, gives, aside_of, fresh, run, first, sum_to}
use Rattle.job.specs.Checkpoint.{checkpoint_size, done_in, aside_in, index_in, reason_in, sound, decode, encode}
use Rattle.job.specs.Reply.{reply}
use Rattle.job.specs.Wake.{moves, fresh_reply, fresh_bytes, wake_reply, wake_bytes}
use Rattle.job.specs.Report.{warming_of, report_reply, left_reply}
use Rattle.job.specs.History.{Wakes, History, InTurn}
use Rattle.job.proofs.StateLaws.{first-mass, first_aside}
use Rattle.job.proofs.CheckpointLaws.{fit_for_sound}
use Rattle.job.proofs.WakeLaws.{fresh_admitted_book, fresh_admitted_32, fresh_admitted_go, fresh_bytes-kept}
use Rattle.job.proofs.WakeLaws.{wake_admitted_book, wake_admitted_30, wake_admitted_31, wake_admitted_32, wake_admitted_go, wake_bytes-kept}
use Rattle.job.proofs.ReportLaws.{report_reply_book, report_reply_30, report_reply_31, report_reply_at}
use Rattle.job.proofs.ReportLaws.{left_reply_book, left_reply_30, left_reply_31, left_reply_at}
use Rattle.job.proofs.ReportLaws.{reply_at_40, reply_at_41, reply_at_0, reply_at_exactly}
use Rattle.job.proofs.HistoryLaws.{at_history, decode_history, sound_history, wakes_history, ends_history, accepts_history}
use Rattle.job.proofs.HistoryLaws.{done_in_turn, same_history, told_history}
use Rattle.job.proofs.ApartLaws.{fresh_reply-apart, fresh_bytes-apart, wake_reply-apart, wake_bytes-apart, left_reply-apart, history_apart}
-- The code meets its contracts.
pub use Rattle.job.proofs.wake.fresh.Met.{met as fresh-meets-its-contract}
pub use Rattle.job.proofs.wake.wake.Met.{met as wake-meets-its-contract}
pub use Rattle.job.proofs.report.report.Met.{met as report-meets-its-contract}
pub use Rattle.job.proofs.report.count_left.Met.{met as count-left-meets-its-contract}
pub use Rattle.rules.proofs.record.judge.Met.{met as judge-meets-its-contract}
pub use Rattle.rules.proofs.reader.look.Met.{met as look-meets-its-contract}

-- ---- 1. Every book, checkpoint, budget and buffer gets a defined reply.
-- A report of a checkpoint c of a book with the head h, whoever made it.
pub record Reports (k : List ℕ) (h : Head) (c : List ℕ) : Type 0 where
  -- Totals are given exactly when the book is finished and no record was set aside:
  pub exactly : ((vs : List ℕ) × (report_reply k c ≡ reply 0 vs)) ↔ ((done_in c ≡ h.n) × (aside_in c ≡ 0))
  -- each rounded once from its exact mass, and the decision on exact masses, under the set that the trailer names.
  pub given : done_in c ≡ h.n → aside_in c ≡ 0
      → let m = (decode c).masses in
      let w = warming_of h.warming in
      let e = mass m fossil + mass m biomass + w.ch4 * mass m ch4 + w.n2o * mass m n2o in
      report_reply k c
      ≡ reply 0 ((kg_of (mass m fossil)).0 ∷ (kg_of (mass m biomass)).0 ∷ (kg_of (mass m ch4)).0 ∷ (kg_of (mass m n2o)).0 ∷ (kg_of e).0
      ∷ choose (must_report e (mass m biomass)) 1 0 ∷ [])
  -- Else it is told that the book isn't finished, or, once it is, the first record set aside.
  pub within : done_in c ≤ h.n
  pub unfinished : done_in c < h.n → report_reply k c ≡ reply 40 (done_in c ∷ [])
  pub withheld : done_in c ≡ h.n → (aside_in c ≡ 0 → ⊥) → report_reply k c ≡ reply 41 (index_in c ∷ reason_in c ∷ [])

pub reports : (k c : List ℕ) (h : Head) → opened k ≡ accepted h → length c ≡ checkpoint_size → sound h c ≡ true
    → Reports k h c
unfolding decode
reports k c h e l s =
    let says = report_reply_at k c e l s in
    let few = (fit_for_sound h c s).counts_fit.done_le in
    let only = reply_at_exactly h (decode c) few in
    record {
      exactly = (λ g. only.0 (g.0, sym says ∙ g.1), λ q. let g = only.1 q in (g.0, says ∙ g.1));
      given = λ l z. says ∙ reply_at_0 h (decode c) l z;
      within = few;
      unfinished = λ l. says ∙ reply_at_40 h (decode c) l;
      withheld = λ l z. says ∙ reply_at_41 h (decode c) l z;
    }

pub record Demand1 (k c : List ℕ) (b : ℕ) (out : List ℕ) : Type 0 where
  -- A book that breaks the rules is turned away first, with the first of these numbers that applies, and no other.
  pub book_20 : (opened k ≡ refused 20) ↔ (length_ok k ≡ false)
  pub book_21 : (opened k ≡ refused 21) ↔ ((length_ok k ≡ true) × (trailer_ok (trailer k) (length k - 32) ≡ false))
  pub book_22 : (opened k ≡ refused 22)
      ↔ ((length_ok k ≡ true) × (trailer_ok (trailer k) (length k - 32) ≡ true)
      × (lines_sound unit_ok (unit_lines (head_of k) k) ≡ false))
  pub book_23 : (opened k ≡ refused 23)
      ↔ ((length_ok k ≡ true) × (trailer_ok (trailer k) (length k - 32) ≡ true)
      × (lines_sound unit_ok (unit_lines (head_of k) k) ≡ true) × (lines_sound fuel_ok (fuel_lines (head_of k) k) ≡ false))
  pub book_number : (n : ℕ) → opened k ≡ refused n → (20 ≤ n) × (n ≤ 23)
  pub book_accepted : (h : Head) → (opened k ≡ accepted h)
      ↔ ((length_ok k ≡ true) × (trailer_ok (trailer k) (length k - 32) ≡ true)
      × (lines_sound unit_ok (unit_lines (head_of k) k) ≡ true) × (lines_sound fuel_ok (fuel_lines (head_of k) k) ≡ true)
      × (h ≡ head_of k))
  -- Unit or fuel lines are sound if there are at most 64, each is right by itself, and their numbers are above 0
  -- and rise.
  pub lines_right : (ok : List ℕ → Bool) (s : List ℕ) → (lines_sound ok s ≡ true) ↔ RightLines ok s
  pub refuses_book : (n : ℕ) → opened k ≡ refused n
      → (fresh_reply k out ≡ reply n []) × (wake_reply k c b out ≡ reply n [])
      × (report_reply k c ≡ reply n []) × (left_reply k c ≡ reply n [])
  -- Then a checkpoint that hasn't 96 bytes,
  pub refuses_30 : (h : Head) → opened k ≡ accepted h → (length c ≡ checkpoint_size → ⊥)
      → (wake_reply k c b out ≡ reply 30 []) × (report_reply k c ≡ reply 30 []) × (left_reply k c ≡ reply 30 [])
  -- then one that isn't sound for the book,
  pub refuses_31 : (h : Head) → opened k ≡ accepted h → length c ≡ checkpoint_size → sound h c ≡ false
      → (wake_reply k c b out ≡ reply 31 []) × (report_reply k c ≡ reply 31 []) × (left_reply k c ≡ reply 31 [])
  -- then a buffer that hasn't 96 bytes.
  pub refuses_32_wake : (h : Head) → opened k ≡ accepted h → length c ≡ checkpoint_size → sound h c ≡ true
      → (length out ≡ checkpoint_size → ⊥) → wake_reply k c b out ≡ reply 32 []
  pub refuses_32_fresh : (h : Head) → opened k ≡ accepted h → (length out ≡ checkpoint_size → ⊥) → fresh_reply k out ≡ reply 32 []
  -- All else is accepted, also a sound checkpoint that no wake made.
  pub accepts_fresh : (h : Head) → opened k ≡ accepted h → length out ≡ checkpoint_size → fresh_reply k out ≡ reply 0 []
  pub accepts_wake : (h : Head) → opened k ≡ accepted h → length c ≡ checkpoint_size → sound h c ≡ true
      → length out ≡ checkpoint_size → wake_reply k c b out ≡ reply 0 (moves h c b ∷ [])
  pub accepts_report : (h : Head) → opened k ≡ accepted h → length c ≡ checkpoint_size → sound h c ≡ true → Reports k h c
  pub accepts_left : (h : Head) → opened k ≡ accepted h → length c ≡ checkpoint_size → sound h c ≡ true
      → left_reply k c ≡ reply 0 ((h.n - done_in c) ∷ [])
  -- Every byte of the buffer is fixed then.
  pub writes_fresh : (h : Head) → opened k ≡ accepted h → length out ≡ checkpoint_size
      → fresh_bytes k out ≡ encode h fresh
  pub writes_wake : (h : Head) → opened k ≡ accepted h → length c ≡ checkpoint_size → sound h c ≡ true
      → length out ≡ checkpoint_size → wake_bytes k c b out ≡ encode h (run h k (decode c) (moves h c b))
  -- What is turned away leaves the caller's memory untouched.
  pub kept_fresh : (n : ℕ) (vs : List ℕ) → fresh_reply k out ≡ reply (suc n) vs → fresh_bytes k out ≡ out
  pub kept_wake : (n : ℕ) (vs : List ℕ) → wake_reply k c b out ≡ reply (suc n) vs → wake_bytes k c b out ≡ out

pub demand1 : (k c : List ℕ) (b : ℕ) (out : List ℕ) → Demand1 k c b out
unfolding fresh_reply fresh_bytes wake_reply wake_bytes decode
demand1 k c b out = record {
  book_20 = opened_20 k;
  book_21 = opened_21 k;
  book_22 = opened_22 k;
  book_23 = opened_23 k;
  book_number = opened-number k;
  book_accepted = opened-accepted k;
  lines_right = lines_sound_right_lines;
  refuses_book = λ n e. (
    fresh_admitted_book k out _ _ e,
    wake_admitted_book k c out _ _ e,
    report_reply_book k c e,
    left_reply_book k c e,
  );
  refuses_30 = λ h e l. (wake_admitted_30 k c out _ _ e l, report_reply_30 k c e l, left_reply_30 k c e l);
  refuses_31 = λ h e l s. (wake_admitted_31 k c out _ _ e l s, report_reply_31 k c e l s, left_reply_31 k c e l s);
  refuses_32_wake = λ h. wake_admitted_32 k c out _ _;
  refuses_32_fresh = λ h. fresh_admitted_32 k out _ _;
  accepts_fresh = λ h. fresh_admitted_go k out _ _;
  accepts_wake = λ h. wake_admitted_go k c out _ _;
  accepts_report = reports k c;
  accepts_left = λ h. left_reply_at k c;
  writes_fresh = λ h. fresh_admitted_go k out _ _;
  writes_wake = λ h. wake_admitted_go k c out _ _;
  kept_fresh = λ n vs. fresh_bytes-kept k;
  kept_wake = λ n vs. wake_bytes-kept k c b;
}

-- ---- 2. A checkpoint c that any wakes from a fresh start left of an accepted book with the head h.
pub record Demand2 (k : List ℕ) (h : Head) (c : List ℕ) : Type 0 where
  -- A record is set aside for the first reason that applies; if none does it gives, by its method, the masses of
  -- its amount, heat and carbon, or of its readings. `look` shows what becomes of it.
  pub records : (i : ℕ) → Reasons (lines i k) (line i k) (lines_in (unit_lines h k)) (lines_in (fuel_lines h k)) (outcome_at h k i)
  pub looks : (i : ℕ) → i < h.n → sight_at k i ≡ shown (numbered (outcome_at h k i))
  -- The ledgers are exact sums, in ng, of what each record gives by itself, at every place of them, of which fossil,
  -- biomass, ch4 and n2o are names, and those set aside are counted.
  pub ledger : (i : ℕ) → mass (decode c).masses i ≡ sum_to (λ j. mass (gives (outcome_at h k j)) i) (done_in c)
  pub aside : aside_in c ≡ sum_to (λ i. aside_of (outcome_at h k i)) (done_in c)
  -- It tells the first record that was set aside, and why.
  pub told : 0 < aside_in c → (r : Reason) × (outcome_at h k (index_in c) ≡ Err r) × (reason_number r ≡ reason_in c)
  pub none_before : 0 < aside_in c → (j : ℕ) → j < index_in c → aside_of (outcome_at h k j) ≡ 0
  -- Totals are withheld exactly when a record was set aside or the book isn't finished.
  pub report : Reports k h c

pub demand2 : (k : List ℕ) (h : Head) → opened k ≡ accepted h
    → (cs : List (List ℕ)) (c : List ℕ) → History k cs → Memᴰ c cs → Demand2 k h c
unfolding decode
demand2 k h e cs c past i =
    let holds = decode_history k h e cs c past i in
    let good = sound_history k h e cs c past i in
    record {
      records = λ j. reasons_outcome_at h k j e;
      looks = λ j. sight_at-shown k h j e;
      ledger = λ j. ap (λ (s : State). mass s.masses j) holds ∙ first-mass h k (done_in c) j;
      aside = ap (λ (s : State). s.counts.aside) holds ∙ first_aside h k (done_in c);
      told = λ l. (told_history k h e cs c past i l).set_aside;
      none_before = λ l. (told_history k h e cs c past i l).none_before;
      report = reports k c h e good.0 good.1;
    }

-- ---- 3. The same, of a checkpoint c in a history cs, whichever earlier ones its wakes used.
pub record Demand3 (k : List ℕ) (h : Head) (c : List ℕ) : Type 0 where
  -- It holds exactly what the first so many records give.
  pub holds : c ≡ encode h (first h k (done_in c))
  pub reads : decode c ≡ first h k (done_in c)
  -- A wake from it is always accepted,
  pub accepts : (b : ℕ) (out : List ℕ) → length out ≡ checkpoint_size
      → wake_reply k c b out ≡ reply 0 ((min (done_in c + b) h.n - done_in c) ∷ [])
  -- and with budget b ends at min (p + b) n, holding exactly what that many records give.
  pub ends : (b m : ℕ) (d : List ℕ) → Wakes k c b m d → done_in d ≡ min (done_in c + b) h.n
  pub gives : (b m : ℕ) (d : List ℕ) → Wakes k c b m d → d ≡ encode h (first h k (min (done_in c + b) h.n))
  -- It says how many records it went through.
  pub counts : (b m : ℕ) (d : List ℕ) → Wakes k c b m d → m ≡ min (done_in c + b) h.n - done_in c

pub demand3 : (k : List ℕ) (h : Head) → opened k ≡ accepted h
    → (cs : List (List ℕ)) (c : List ℕ) → History k cs → Memᴰ c cs → Demand3 k h c
demand3 k h e cs c past i = record {
  holds = (at_history k h e cs c past i).1;
  reads = decode_history k h e cs c past i;
  accepts = λ b out. accepts_history k h e cs c b out past i;
  ends = λ b m d. ends_history k h e cs c b m d past i;
  gives = λ b m d w. (wakes_history k h e cs c b m d past i w).1;
  counts = λ b m d w. (wakes_history k h e cs c b m d past i w).0;
}

-- An older checkpoint may cost wakes and never alters a figure: whatever the two histories, checkpoints
-- of one place are the same bytes.
pub demand3_same : (k : List ℕ) (h : Head) → opened k ≡ accepted h
    → (cs ds : List (List ℕ)) (c d : List ℕ) → History k cs → Memᴰ c cs → History k ds → Memᴰ d ds
    → done_in c ≡ done_in d → c ≡ d
demand3_same k h e cs ds c d p i q j same = same_history k h e cs ds c d p i q j same

-- Nor does the set of warming values alter a mass or a checkpoint: k' is the accepted book k, but may name the other set.
-- It is accepted too; the same is seen of each record; starts, wakes and counts reply alike and write the same bytes,
-- whatever the checkpoint; and what a history of k left, a history of k' leaves.
pub record SameWork (k k' : List ℕ) : Type 0 where
  pub accepts : (h : Head) × (opened k' ≡ accepted h)
  pub looks : (i : ℕ) → sight_at k' i ≡ sight_at k i
  pub starts : (out : List ℕ) → (fresh_reply k' out ≡ fresh_reply k out) × (fresh_bytes k' out ≡ fresh_bytes k out)
  pub wakes : (c : List ℕ) (b : ℕ) (out : List ℕ)
      → (wake_reply k' c b out ≡ wake_reply k c b out) × (wake_bytes k' c b out ≡ wake_bytes k c b out)
  pub counts : (c : List ℕ) → left_reply k' c ≡ left_reply k c
  pub leaves : (cs : List (List ℕ)) → History k cs → History k' cs

pub demand3_set : (k k' : List ℕ) (h : Head) → opened k ≡ accepted h → SetApart k k' → warming_set (trailer k') ≤ 1
    → SameWork k k'
demand3_set k k' h e apart named = record {
  accepts = (_, opened-apart apart e named);
  looks = sight_at-apart apart e named;
  starts = λ out. (fresh_reply-apart apart e named out, fresh_bytes-apart apart e named out);
  wakes = λ c b out. (wake_reply-apart apart e named c b out, wake_bytes-apart apart e named c b out);
  counts = left_reply-apart apart e named;
  leaves = history_apart apart e named;
}

-- With the latest checkpoint each time, the job is done exactly when the budgets add up to n or more.
pub demand3_done : (k : List ℕ) (h : Head) → opened k ≡ accepted h
    → (t : ℕ) (c : List ℕ) → InTurn k t c → (done_in c ≡ h.n) ↔ (h.n ≤ t)
demand3_done k h e t c turns = done_in_turn k h e t c turns
