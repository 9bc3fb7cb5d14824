-- Programs that the contracts shut out by name: each would contradict a reply or a checkpoint that is
-- fixed of any accepted book, or of the books of Witness and of Sets. Assumes nothing.
use Prim.Native.Nat.{ℕ, suc, ◌+◌, ◌-◌, ◌<◌}
use mathlib.Core.List.{List, Memᴰ}
use mathlib.Core.Path.{◌≡◌, refl, sym, ap, ◌∙◌}
use native.Mathlib.Omega.{arith}
use lib.ListN.{length, replicate, get_or}
use Rattle.mass.specs.Figures.{kg_of}
use Rattle.rules.specs.declared.book.Head.{Head}
use Rattle.rules.specs.Book.{accepted, opened, SetApart}
use Rattle.rules.specs.Record.{outcome_at}
use Rattle.rules.proofs.Sample.{sample_book, sample_head, opened_sample_book, empty_book, empty_head, opened_empty_book}
use Rattle.rules.proofs.Sample.{second_book, opened_second_book, sample_book_apart}
use Rattle.job.specs.State.{mass, fossil, aside_of, sum_to}
use Rattle.job.specs.Checkpoint.{checkpoint_size, done_in, aside_in, decode}
use Rattle.job.specs.Reply.{Reply, reply}
use Rattle.job.specs.Wake.{fresh_reply, fresh_bytes, wake_reply, wake_bytes}
use Rattle.job.specs.Report.{report_reply}
use Rattle.job.specs.History.{Wakes, History}
use Rattle.job.proofs.ReplyLaws.{refused_0, one_first}
use Rattle.job.proofs.Demands.{Demand2, demand1, demand2, demand3}
use Rattle.job.proofs.Witness.{Witness, witness, report_reply_empty_book}
use Rattle.job.proofs.Sets.{sets}

module _ (k : List ℕ) (h : Head) (e : opened k ≡ accepted h) where
  -- A fresh start that refuses every book.
  pub no_refusing_fresh : (out : List ℕ) (n : ℕ) (vs : List ℕ) → length out ≡ checkpoint_size
      → fresh_reply k out ≡ reply (suc n) vs → ⊥
  no_refusing_fresh out n vs o r = refused_0 ((demand1 k out 0 out).accepts_fresh h e o) r (omega arith)

  module _ (cs : List (List ℕ)) (c : List ℕ) (past : History k cs) (i : Memᴰ c cs) where
    -- A wake that refuses a checkpoint which an earlier one left.
    pub no_refusing_wake : (b : ℕ) (out : List ℕ) (n : ℕ) (vs : List ℕ) → length out ≡ checkpoint_size
        → wake_reply k c b out ≡ reply (suc n) vs → ⊥
    no_refusing_wake b out n vs o r = refused_0 ((demand3 k h e cs c past i).accepts b out o) r (omega arith)

    -- A report that withholds the totals of a finished book, no record of which was set aside.
    pub no_refusing_report : (n : ℕ) (vs : List ℕ) → done_in c ≡ h.n → aside_in c ≡ 0
        → report_reply k c ≡ reply (suc n) vs → ⊥
    no_refusing_report n vs l z r = refused_0 ((demand2 k h e cs c past i).report.given l z) r (omega arith)

    module _ (b m : ℕ) (d : List ℕ) (w : Wakes k c b m d) where
      -- A wake that moves nothing, though it has a budget and the book isn't finished.
      pub no_standing_still : 0 < b → done_in c < h.n → done_in d ≡ done_in c → ⊥
      no_standing_still l u s = let at = (demand3 k h e cs c past i).ends b m d w in omega arith

      -- A wake that does the whole book on a budget that doesn't reach its end.
      pub no_whole_book : done_in c + b < h.n → done_in d ≡ h.n → ⊥
      no_whole_book l s = let at = (demand3 k h e cs c past i).ends b m d w in omega arith

      -- An invented number of records gone through.
      pub no_invented_count : (m ≡ done_in d - done_in c → ⊥) → ⊥
      no_invented_count f =
          let at = (demand3 k h e cs c past i).ends b m d w in
          let count = (demand3 k h e cs c past i).counts b m d w in
          f (omega arith)

    -- An invented number of records set aside.
    pub no_invented_aside : (aside_in c ≡ sum_to (λ j. aside_of (outcome_at h k j)) (done_in c) → ⊥) → ⊥
    no_invented_aside f = f (demand2 k h e cs c past i).aside

-- One fixed report for two finished books whose fossil CO2 differs.
pub no_fixed_report : (k k' : List ℕ) (h h' : Head) (c c' : List ℕ) → Demand2 k h c → Demand2 k' h' c'
    → done_in c ≡ h.n → aside_in c ≡ 0 → done_in c' ≡ h'.n → aside_in c' ≡ 0
    → ((kg_of (mass (decode c).masses fossil)).0 ≡ (kg_of (mass (decode c').masses fossil)).0 → ⊥)
    → (fixed : Reply) → report_reply k c ≡ fixed → report_reply k' c' ≡ fixed → ⊥
no_fixed_report k k' h h' c c' p q l z l' z' differ fixed r r' =
    differ (one_first (sym (p.report.given l z) ∙ r) (sym (q.report.given l' z') ∙ r'))

-- ---- with no premise, since the book of Witness is accepted, goes to its end and is reported
-- Any number but 0 refuses or withholds.
pub record Refuses (r : Reply) : Type 0 where
  pub number : ℕ
  pub values : List ℕ
  pub refuses : r ≡ reply (suc number) values

abbrev blank : List ℕ
blank = replicate checkpoint_size 0

seen : Witness blank blank 1
seen = witness blank blank 1 refl refl (omega arith)

-- A fresh start that refuses every book.
pub no_refusing_every-fresh : ((k out : List ℕ) → length out ≡ checkpoint_size → Refuses (fresh_reply k out)) → ⊥
no_refusing_every-fresh f = refused_0 seen.starts (f sample_book blank refl).refuses (omega arith)

-- A wake that refuses every checkpoint.
pub no_refusing_every_wake : ((k c : List ℕ) (b : ℕ) (out : List ℕ) → length out ≡ checkpoint_size → Refuses (wake_reply k c b out))
    → ⊥
no_refusing_every_wake f = refused_0 seen.wakes (f sample_book _ 1 blank refl).refuses (omega arith)

-- A report that withholds the totals of every book.
pub no_refusing_every_report : ((k c : List ℕ) → Refuses (report_reply k c)) → ⊥
no_refusing_every_report f = refused_0 seen.reports (f sample_book _).refuses (omega arith)

-- A report that gives every accepted book the figures of one set, whichever its trailer names.
pub no_one_set : ((k k' c : List ℕ) (h h' : Head) → opened k ≡ accepted h → opened k' ≡ accepted h' → SetApart k k'
    → report_reply k' c ≡ report_reply k c) → ⊥
no_one_set f =
    let alike = f sample_book second_book _ _ _ opened_sample_book opened_second_book sample_book_apart in
    let same : ◌≡◌ {A = ℕ} 1 0 = ap decision (sym sets.ch4_second ∙ alike ∙ sets.ch4_first) in
    omega arith
  where
    decision : Reply → ℕ
    decision (reply n vs) = get_or vs 5 0

-- One fixed report for every accepted book that a wake took to its end.
pub no_one_report : (fixed : Reply)
    → ((k : List ℕ) (h : Head) (out next : List ℕ) → opened k ≡ accepted h → length out ≡ checkpoint_size → length next ≡ checkpoint_size
    → report_reply k (wake_bytes k (fresh_bytes k out) h.n next) ≡ fixed) → ⊥
no_one_report fixed f =
    let one = f sample_book sample_head blank blank opened_sample_book refl refl in
    let none = f empty_book empty_head blank blank opened_empty_book refl refl in
    let same : ◌≡◌ {A = ℕ} 1900 0 =
    one_first (sym seen.reports ∙ one) (sym (report_reply_empty_book blank blank refl refl) ∙ none) in
    omega arith
