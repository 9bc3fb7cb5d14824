-- What the programs print tells a refusal exactly where the book or the report is refused. Assumes nothing.
use Prim.Native.Nat.{ℕ}
use mathlib.Core.Bool.{Bool, true, false, false≢true, not}
use mathlib.Core.List.{List, [], ◌++◌, append_assoc}
use mathlib.Core.Path.{◌≡◌, refl, sym, ap, ◌∙◌}
use lib.Dec.{eqb, ltb}
use lib.ListN.{length}
use Rattle.std.specs.Prelude.{Ok, Err}
use Rattle.choice.specs.Tests.{◌either◌, choose}
use Rattle.choice.proofs.Splitting.{if_test}
use Rattle.choice.proofs.TestsLaws.{worked-out, either_t, either_f, choose_t, choose_f, if_choose}
use Rattle.rules.specs.declared.book.Head.{Head}
use Rattle.rules.specs.declared.entry.Destination.{Destination}
use Rattle.rules.specs.declared.entry.Destination.TheVariants.{Fossil, Biomass, Nowhere}
use Rattle.rules.specs.declared.entry.Entry.{Entry}
use Rattle.rules.specs.Book.{Answer, refused, accepted, opened}
use Rattle.rules.specs.Reader.{Shown, Sight, turned_away, missing, shown}
use Rattle.job.specs.State.{first}
use Rattle.job.specs.Reply.{Reply, reply}
use Rattle.job.specs.Wake.{if_open}
use Rattle.job.specs.Report.{reply_at, report_reply}
use Rattle.job.proofs.WakeLaws.{if_open-refused, if_open-accepted}
use Rattle.text.specs.Words.{ascii, newline, decimal, field, line}
use Rattle.text.specs.Report.{value, refused_text, decision_text, figures_text, reply_text, year_text, annual_most, annual_text}
use Rattle.text.specs.Refusal.{tells, has_refusal}
use Rattle.text.specs.Progress.{moved_text, progress_by, progress_with, progress_text, turn_text}
use Rattle.text.specs.Lines.{method_text, ledger_text, masses_text, outcome_text, line_text}
use Rattle.text.proofs.QuietLaws.{Plain, plain_word, plain_append, plain_choose, plain_decimal, plain_field, tells_plain, tells-newline, other, other_append, other_field, tells_other, Quiet, quiet_append, quiet_choose, quiet_ended, quiet_line, has_refusal_quiet, has_refusal_behind, has_refusal-refused_text}

-- ---- a report
-- The reply to a report gives figures if its number is 0.
abbrev pub refuses : Reply → Bool
refuses (reply n vs) = not (eqb n 0)

quiet_decision_text : (d : ℕ) → Quiet (decision_text d)
unfolding decision_text
quiet_decision_text d =
    quiet_choose (eqb d 1)
    (quiet_ended (ascii "must-report yes") (other _ (simp worked-out) (simp worked-out)))
    (quiet_ended (ascii "must-report no") (other _ (simp worked-out) (simp worked-out)))

quiet_figures_text : (h : Head) (vs : List ℕ) → Quiet (figures_text h vs)
unfolding figures_text
quiet_figures_text h vs =
    let year = quiet_line (ascii "year ") h.year (simp worked-out) (simp worked-out) in
    let records = quiet_line (ascii "records ") h.n (simp worked-out) (simp worked-out) in
    let fossil = quiet_line (ascii "fossil-co2-kg ") (value vs 0) (simp worked-out) (simp worked-out) in
    let biomass = quiet_line (ascii "biomass-co2-kg ") (value vs 1) (simp worked-out) (simp worked-out) in
    let ch4 = quiet_line (ascii "ch4-kg ") (value vs 2) (simp worked-out) (simp worked-out) in
    let n2o = quiet_line (ascii "n2o-kg ") (value vs 3) (simp worked-out) (simp worked-out) in
    let co2e = quiet_line (ascii "co2e-kg ") (value vs 4) (simp worked-out) (simp worked-out) in
    let co2 = quiet_append (quiet_append (quiet_append year records) fossil) biomass in
    quiet_append (quiet_append (quiet_append (quiet_append co2 ch4) n2o) co2e) (quiet_decision_text (value vs 5))

has_refusal-reply_text : (h : Head) (r : Reply) → has_refusal (reply_text h r) ≡ refuses r
unfolding reply_text
has_refusal-reply_text h (reply n vs) =
    if_test (eqb n 0)
    (λ e.
    ap has_refusal (choose_t _ e refl)
    ∙ has_refusal_quiet (figures_text h vs) (quiet_figures_text h vs)
    ∙ ap not (sym e))
    (λ e. ap has_refusal (choose_f _ e refl) ∙ has_refusal-refused_text n vs ∙ ap not (sym e))

-- A book that is refused is told so, and of an open one what becomes of it.
has_refusal-if_open : (a : Answer) (f : Head → List ℕ) (x : Head → Bool) → ((h : Head) → has_refusal (f h) ≡ x h)
    → has_refusal (if_open a (λ n. refused_text n []) f) ≡ if_open a (λ n. true) x
has_refusal-if_open (refused n) f x p =
    ap has_refusal (if_open-refused (refused n) _ f refl)
    ∙ has_refusal-refused_text n []
    ∙ sym (if_open-refused (refused n) _ x refl)
has_refusal-if_open (accepted h) f x p =
    ap has_refusal (if_open-accepted (accepted h) _ f refl)
    ∙ p h
    ∙ sym (if_open-accepted (accepted h) _ x refl)

has_refusal-year_text : (k : List ℕ)
    → has_refusal (year_text k) ≡ if_open (opened k) (λ n. true) (λ h. refuses (reply_at h (first h k h.n)))
unfolding year_text
has_refusal-year_text k =
    has_refusal-if_open (opened k) _ _ (λ h. has_refusal-reply_text h (reply_at h (first h k h.n)))

pub has_refusal-annual_text : (k : List ℕ) → has_refusal (annual_text k)
    ≡ ltb annual_most (length k) either if_open (opened k) (λ n. true) (λ h. refuses (reply_at h (first h k h.n)))
unfolding annual_text
has_refusal-annual_text k =
    if_test (ltb annual_most (length k))
    (λ t. ap has_refusal (choose_t _ t refl) ∙ has_refusal-refused_text 20 [] ∙ sym (either_t _ t))
    (λ f. ap has_refusal (choose_f _ f refl) ∙ has_refusal-year_text k ∙ sym (either_f f refl))

-- ---- a wake
-- 40 is no refusal of a wake: it says how far the job is.
abbrev pub refuses_wake : Reply → Bool
refuses_wake (reply n vs) = choose (eqb n 40) false (not (eqb n 0))

neither : (a b : Bool) → (a either b) ≡ false → a ≡ false
neither a b e = if_test a (λ t. absurd (false≢true (sym e ∙ either_t b t))) (λ f. f)

-- What stands between the two parts of how far a wake went begins no refusal's line.
abbrev Gap : List ℕ → Type 0
Gap gap = (t : List ℕ) → tells false (gap ++ t) ≡ tells false t

module _ (gap : List ℕ) (between : Gap gap) (h : Head) (m : ℕ) where
  quiet_moved_text : (d : ℕ) → Quiet (moved_text gap h m d)
  unfolding moved_text
  quiet_moved_text d = record {
    passed = λ t.
        let moved = field (ascii "moved ") m in
        let all = field (ascii " of ") h.n in
        let last = line (ascii " of ") h.n ++ t in
        ap (tells true) (append_assoc (moved ++ field gap d) (line (ascii " of ") h.n) t)
        ∙ ap (tells true) (append_assoc moved (field gap d) last)
        ∙ tells_other moved (field gap d ++ last) (other_field (ascii "moved ") m (simp worked-out) (simp worked-out))
        ∙ ap (tells false) (append_assoc gap (decimal d) last)
        ∙ between (decimal d ++ last)
        ∙ tells_plain (decimal d) last (plain_decimal d)
        ∙ ap (tells false) (append_assoc all newline t)
        ∙ tells_plain all (newline ++ t) (plain_field (ascii " of ") h.n (simp worked-out))
        ∙ tells-newline t;
  }

  has_refusal-progress_by : (r : Reply) → has_refusal (progress_by gap h m r) ≡ refuses_wake r
  unfolding progress_by
  has_refusal-progress_by (reply n vs) =
      if_test (eqb n 40)
      (λ e.
      ap has_refusal (choose_t _ e refl)
      ∙ has_refusal_quiet _ (quiet_moved_text (value vs 0))
      ∙ sym (choose_t _ e refl))
      (λ e.
      ap has_refusal (choose_f _ e refl)
      ∙ if_choose (λ (s : List ℕ). has_refusal s ≡ not (eqb n 0)) (eqb n 0 either eqb n 41)
      (λ i. has_refusal_behind _ _ (quiet_moved_text h.n) ∙ has_refusal-reply_text h (reply n vs))
      (λ i. has_refusal-refused_text n vs ∙ sym (ap not (neither (eqb n 0) (eqb n 41) i)))
      ∙ sym (choose_f _ e refl))

module _ (k c : List ℕ) (m : ℕ) where
  has_refusal-progress_with : (gap : List ℕ) → Gap gap
      → has_refusal (progress_with gap k c m) ≡ if_open (opened k) (λ n. true) (λ h. refuses_wake (report_reply k c))
  unfolding progress_with
  has_refusal-progress_with gap between =
      has_refusal-if_open (opened k) _ _ (λ h. has_refusal-progress_by gap between h m (report_reply k c))

  pub has_refusal-progress_text :
      has_refusal (progress_text k c m) ≡ if_open (opened k) (λ n. true) (λ h. refuses_wake (report_reply k c))
  unfolding progress_text
  has_refusal-progress_text =
      has_refusal-progress_with (ascii "\ndone ")
      (λ t.
      tells-newline (ascii "done " ++ t)
      ∙ tells_other (ascii "done ") t (other _ (simp worked-out) (simp worked-out)))

  pub has_refusal-turn_text :
      has_refusal (turn_text k c m) ≡ if_open (opened k) (λ n. true) (λ h. refuses_wake (report_reply k c))
  unfolding turn_text
  has_refusal-turn_text =
      has_refusal-progress_with (ascii " done ")
      (λ t. tells_plain (ascii " done ") t (plain_word (ascii " done ") (simp worked-out)))

-- ---- the line of a record
-- A refused book has no records to see.
abbrev pub refuses_sight : Sight → Bool
refuses_sight (turned_away n) = true
refuses_sight missing = false
refuses_sight (shown o) = false

plain_method_text : (k m : ℕ) → Plain (method_text k m)
unfolding method_text
plain_method_text k m =
    plain_choose (eqb m 0)
    (plain_choose (eqb k 4) (plain_word (ascii " anodes") (simp worked-out)) (plain_word (ascii " hour") (simp worked-out)))
    (plain_field (ascii " method ") m (simp worked-out))

plain_ledger_text : (d : Destination) → Plain (ledger_text d)
plain_ledger_text Fossil = plain_word (ascii " fossil") (simp worked-out)
plain_ledger_text Biomass = plain_word (ascii " biomass") (simp worked-out)
plain_ledger_text Nowhere = plain_word (ascii " none") (simp worked-out)

plain_masses_text : (e : Entry) → Plain (masses_text e)
unfolding masses_text
plain_masses_text e =
    let co2 = plain_field (ascii " co2-ug ") e.co2.0 (simp worked-out) in
    let ch4 = plain_field (ascii " ch4-ng ") e.ch4.0 (simp worked-out) in
    plain_append (plain_append co2 ch4) (plain_field (ascii " n2o-ng ") e.n2o.0 (simp worked-out))

plain_outcome_text : (k : ℕ) (o : Shown) → Plain (outcome_text k o)
unfolding outcome_text
plain_outcome_text k (Err r) = plain_field (ascii " reason ") r (simp worked-out)
plain_outcome_text k (Ok e) =
    plain_append (plain_append (plain_method_text k e.method) (plain_ledger_text e.destination)) (plain_masses_text e)

has_refusal-nil : has_refusal [] ≡ false
unfolding has_refusal tells
has_refusal-nil = refl

pub has_refusal-line_text : (i k : ℕ) (x : Sight) → has_refusal (line_text i k x) ≡ refuses_sight x
unfolding line_text
has_refusal-line_text i k (turned_away n) = has_refusal-refused_text n []
has_refusal-line_text i k missing = has_refusal-nil
has_refusal-line_text i k (shown o) =
    has_refusal_quiet _
    (quiet_ended (field (ascii "record ") i ++ outcome_text k o)
    (other_append (other_field (ascii "record ") i (simp worked-out) (simp worked-out)) (plain_outcome_text k o)))
