-- The text of a report, one case of its reply at a time, and how long it is at most. Assumes nothing.
use Prim.Native.Nat.{ℕ, ◌<◌, ◌≤◌}
use mathlib.Core.Bool.{Bool, true, false}
use mathlib.Core.List.{List, [], ◌∷◌, ◌++◌, append_assoc, append-nil}
use mathlib.Core.Path.{◌≡◌, refl, sym, ap, ◌∙◌}
use Rattle.std.specs.Prelude.{Result, Ok, Err}
use native.Mathlib.Omega.{arith}
use lib.Dec.{eqb, ltb}
use lib.ListN.{length, take}
use lib.Seq.{take_all}
use borrow.Author.Tests.{ne_eqb, lt-ltb, le-ltb, ltb-false}
use Rattle.choice.specs.Tests.{choose}
use Rattle.choice.proofs.Splitting.{if_test}
use Rattle.choice.proofs.TestsLaws.{choose_t, choose_f}
use Rattle.mass.specs.declared.figures.Figures.{Figures}
use Rattle.rules.specs.declared.book.Fault.{Fault}
use Rattle.rules.specs.declared.book.Fault.TheVariants.{Length, Trailer, Units, Fuels}
use Rattle.rules.specs.declared.book.Head.{Head}
use Rattle.rules.specs.Book.{accepted, opened, fault_number}
use Rattle.job.specs.declared.reply.Refusal.{Refusal}
use Rattle.job.specs.declared.reply.Refusal.TheVariants.{Book, CheckpointLength, CheckpointUnsound, BufferLength}
use Rattle.job.specs.declared.reply.Report.{Report}
use Rattle.job.specs.declared.reply.Report.TheVariants.{Unfinished, RecordAside, Given}
use Rattle.job.specs.Reply.{Reply, reply, refusal_number, figure_values, reported}
use Rattle.job.specs.Checkpoint.{checkpoint_size}
use Rattle.job.specs.Wake.{fresh_bytes, wake_bytes}
use Rattle.job.specs.Report.{report_reply}
use Rattle.job.proofs.ReplyLaws.{reported-refused, reported_unfinished, reported_record_aside, reported-given, figure_values_six}
use Rattle.job.proofs.WakeLaws.{if_open-accepted, records_le}
use Rattle.job.proofs.HistoryLaws.{report_reply-whole}
use Rattle.text.specs.Words.{ascii, newline, field, line}
use Rattle.text.specs.Report.{value, refused_text, decision_text, figures_text, reply_text, year_text, annual_most, annual_text, annual_held}
use Rattle.text.proofs.WordsLaws.{AtMost, append-le, choose-le, word-le, field-le, line-le, wider}

-- ---- a refusal
pub refused_text_alone : (n : ℕ) (vs : List ℕ) → n ≤ 40 → refused_text n vs ≡ line (ascii "refused ") n
unfolding refused_text
refused_text_alone n vs l =
    ap (λ (t : List ℕ). field (ascii "refused ") n ++ t ++ newline) (choose_f _ (ne_eqb n 41 (λ e. omega arith)) refl)
    ∙ ap (λ (t : List ℕ). t ++ newline) (append-nil (field (ascii "refused ") n))

pub refused_text_aside : (i k : ℕ) → refused_text 41 (i ∷ k ∷ [])
    ≡ field (ascii "refused ") 41 ++ field (ascii " record ") i ++ line (ascii " reason ") k
unfolding refused_text
refused_text_aside i k =
    let front = field (ascii "refused ") 41 in
    let record-i = field (ascii " record ") i in
    let reason-k = field (ascii " reason ") k in
    ap (λ (t : List ℕ). front ++ t ++ newline) (choose_t {a = eqb 41 41} {x = record-i ++ reason-k} [] refl refl)
    ∙ ap (λ (t : List ℕ). t ++ newline) (sym (append_assoc front record-i reason-k))
    ∙ append_assoc (front ++ record-i) reason-k newline

pub fault_number-lt : (x : Fault) → fault_number x < 30
fault_number-lt Length = omega arith
fault_number-lt Trailer = omega arith
fault_number-lt Units = omega arith
fault_number-lt Fuels = omega arith

pub refusal_number-lt : (x : Refusal) → refusal_number x < 40
refusal_number-lt (Book x) = let l = fault_number-lt x in omega arith
refusal_number-lt CheckpointLength = omega arith
refusal_number-lt CheckpointUnsound = omega arith
refusal_number-lt BufferLength = omega arith

fault_number-ne : (x : Fault) → fault_number x ≡ 0 → ⊥
fault_number-ne Length e = omega arith
fault_number-ne Trailer e = omega arith
fault_number-ne Units e = omega arith
fault_number-ne Fuels e = omega arith

pub refusal_number-ne : (x : Refusal) → refusal_number x ≡ 0 → ⊥
refusal_number-ne (Book x) e = fault_number-ne x e
refusal_number-ne CheckpointLength e = omega arith
refusal_number-ne CheckpointUnsound e = omega arith
refusal_number-ne BufferLength e = omega arith

-- ---- the reply to a report
reply_text-refused : (h : Head) (n : ℕ) (vs : List ℕ) → (n ≡ 0 → ⊥) → reply_text h (reply n vs) ≡ refused_text n vs
unfolding reply_text
reply_text-refused h n vs e = choose_f _ (ne_eqb n 0 e) refl

module _ (h : Head) {r : Result Report Refusal} where
  by : {x : Reply} {t : List ℕ} (s : Result Report Refusal) → r ≡ s → reported s ≡ x → reply_text h x ≡ t
      → reply_text h (reported r) ≡ t
  by s e d q = ap (λ (y : Result Report Refusal). reply_text h (reported y)) e ∙ ap (reply_text h) d ∙ q

  pub reply_text-reported_refused : (x : Refusal) → r ≡ Err x
      → reply_text h (reported r) ≡ refused_text (refusal_number x) []
  reply_text-reported_refused x e =
      by (Err x) e (reported-refused x) (reply_text-refused h _ _ (refusal_number-ne x))

  pub reply_text_unfinished : (d : ℕ) → r ≡ Ok (Unfinished d) → reply_text h (reported r) ≡ refused_text 40 []
  reply_text_unfinished d e =
      by (Ok (Unfinished d)) e (reported_unfinished d) (reply_text-refused h 40 (d ∷ []) (λ z. omega arith)
      ∙ refused_text_alone 40 (d ∷ []) (omega arith)
      ∙ sym (refused_text_alone 40 [] (omega arith)))

  pub reply_text_record_aside : (i k : ℕ) → r ≡ Ok (RecordAside i k)
      → reply_text h (reported r) ≡ refused_text 41 (i ∷ k ∷ [])
  reply_text_record_aside i k e =
      by (Ok (RecordAside i k)) e (reported_record_aside i k) (reply_text-refused h 41 (i ∷ k ∷ []) (λ z. omega arith))

  pub reply_text-given : (f : Figures) → r ≡ Ok (Given f) → reply_text h (reported r) ≡ figures_text h (figure_values f)
  unfolding reply_text
  reply_text-given f e = by (Ok (Given f)) e (reported-given f) (choose_t {a = eqb 0 0} _ refl refl)

-- A fresh start and one wake with the highest budget leave what all the records give.
pub year_text-whole : (k : List ℕ) {h : Head} → opened k ≡ accepted h → (out next : List ℕ) {begun ended : List ℕ}
    → length out ≡ checkpoint_size → length next ≡ checkpoint_size → begun ≡ fresh_bytes k out
    → ended ≡ wake_bytes k begun 4294967295 next → {r : Reply} → r ≡ report_reply k ended → reply_text h r ≡ year_text k
unfolding year_text
year_text-whole k {h} e out next o p f w {r} q =
    let few = records_le k h e in
    let saved = w ∙ ap (λ (c : List ℕ). wake_bytes k c 4294967295 next) f in
    ap (reply_text h) (q ∙ ap (report_reply k) saved ∙ report_reply-whole k h e 4294967295 out next (omega arith) o p)
    ∙ sym (if_open-accepted (opened k) (λ n. refused_text n []) _ e)

-- ---- what `annual` holds of its input
pub annual_held_more : (s : List ℕ) {more : Bool} → more ≡ true → annual_held s more ≡ refused_text 20 []
unfolding annual_held
annual_held_more s e = choose_t _ e refl

pub annual_held_long : (s : List ℕ) {more : Bool} → more ≡ false → annual_most < length s
    → annual_held s more ≡ refused_text 20 []
unfolding annual_held annual_text
annual_held_long s e p = choose_f _ e refl ∙ choose_t _ (lt-ltb _ _ p) refl

pub annual_held-year : (s : List ℕ) {more : Bool} → more ≡ false → length s ≤ annual_most
    → annual_held s more ≡ year_text s
unfolding annual_held annual_text
annual_held-year s e p = choose_f _ e refl ∙ choose_f _ (le-ltb _ _ p) refl

-- As many bytes as `annual` takes, and whether there are more, decide what it prints of all.
pub annual_held-whole : (k : List ℕ) → annual_held (take annual_most k) (ltb annual_most (length k)) ≡ annual_text k
unfolding annual_text
annual_held-whole k =
    if_test (ltb annual_most (length k))
    (λ t. annual_held_more _ t ∙ sym (choose_t _ t refl))
    (λ f.
    let fits = ltb-false annual_most (length k) f in
    ap (λ (s : List ℕ). annual_held s (ltb annual_most (length k))) (take_all annual_most k fits)
    ∙ annual_held-year k f fits
    ∙ sym (choose_f _ f refl))

-- ---- the figures
pub decision_text_must : {b : Bool} → b ≡ true → decision_text (choose b 1 0) ≡ ascii "must-report yes\n"
unfolding decision_text
decision_text_must e = ap decision_text (choose_t 0 e refl) ∙ choose_t {a = eqb 1 1} _ refl refl

pub decision_text_need_not : {b : Bool} → b ≡ false → decision_text (choose b 1 0) ≡ ascii "must-report no\n"
unfolding decision_text
decision_text_need_not e = ap decision_text (choose_f 1 e refl) ∙ choose_f {a = eqb 0 1} _ refl refl

pub figures_text_six : (h : Head) (f : Figures) → figures_text h (figure_values f)
    ≡ line (ascii "year ") h.year
    ++ line (ascii "records ") h.n
    ++ line (ascii "fossil-co2-kg ") f.fossil.0
    ++ line (ascii "biomass-co2-kg ") f.biomass.0
    ++ line (ascii "ch4-kg ") f.ch4.0
    ++ line (ascii "n2o-kg ") f.n2o.0
    ++ line (ascii "co2e-kg ") f.co2e.0
    ++ decision_text (choose f.reportable 1 0)
unfolding figures_text
figures_text_six h f = ap (figures_text h) (figure_values_six f refl)

-- ---- how long a text is at most
pub refused_text-le : (n : ℕ) (vs : List ℕ) → AtMost 85 (refused_text n vs)
unfolding refused_text
refused_text-le n vs =
    append-le
    (append-le (field-le (ascii "refused ") n)
    (choose-le (eqb n 41)
    (append-le (field-le (ascii " record ") (value vs 0)) (field-le (ascii " reason ") (value vs 1)))
    (wider (word-le []) (omega arith))))
    (word-le newline)

decision_text-le : (d : ℕ) → AtMost 16 (decision_text d)
unfolding decision_text
decision_text-le d =
    choose-le (eqb d 1) (word-le (ascii "must-report yes\n")) (wider (word-le (ascii "must-report no\n")) (omega arith))

figures_text-le : (h : Head) (vs : List ℕ) → AtMost 227 (figures_text h vs)
unfolding figures_text
figures_text-le h vs =
    let year = line-le (ascii "year ") h.year in
    let records = append-le year (line-le (ascii "records ") h.n) in
    let fossil = append-le records (line-le (ascii "fossil-co2-kg ") (value vs 0)) in
    let biomass = append-le fossil (line-le (ascii "biomass-co2-kg ") (value vs 1)) in
    let ch4 = append-le biomass (line-le (ascii "ch4-kg ") (value vs 2)) in
    let n2o = append-le ch4 (line-le (ascii "n2o-kg ") (value vs 3)) in
    let co2e = append-le n2o (line-le (ascii "co2e-kg ") (value vs 4)) in
    append-le co2e (decision_text-le (value vs 5))

pub reply_text-le : (h : Head) (r : Reply) → AtMost 227 (reply_text h r)
unfolding reply_text
reply_text-le h (reply n vs) =
    choose-le (eqb n 0) (figures_text-le h vs) (wider (refused_text-le n vs) (omega arith))
