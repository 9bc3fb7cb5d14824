-- What is printed of a wake, one case at a time, and how long it is at most. Assumes nothing.
use Prim.Native.Nat.{ℕ, ◌<◌, ◌≤◌}
use mathlib.Core.List.{List, [], ◌++◌}
use mathlib.Core.Path.{◌≡◌, refl, sym, ap, ◌∙◌}
use Rattle.std.specs.Prelude.{Result, Ok, Err}
use native.Mathlib.Omega.{arith}
use lib.Dec.{eqb}
use lib.ListN.{length}
use borrow.Author.Tests.{ne_eqb}
use Rattle.choice.specs.Tests.{◌either◌}
use Rattle.choice.proofs.TestsLaws.{either_t, either_f, choose_t, choose_f}
use Rattle.mass.specs.declared.figures.Figures.{Figures}
use Rattle.rules.specs.declared.book.Fault.{Fault}
use Rattle.rules.specs.declared.book.Head.{Head}
use Rattle.job.specs.declared.reply.Refusal.{Refusal}
use Rattle.job.specs.declared.reply.Refusal.TheVariants.{Book, CheckpointLength, CheckpointUnsound, BufferLength}
use Rattle.job.specs.declared.reply.Report.{Report}
use Rattle.job.specs.declared.reply.Report.TheVariants.{Unfinished, RecordAside, Given}
use Rattle.job.specs.Reply.{Reply, reply, refusal_number, reported}
use Rattle.job.proofs.ReplyLaws.{reported-refused, reported_unfinished, reported_record_aside, reported-given}
use Rattle.text.specs.Words.{ascii}
use Rattle.text.specs.Report.{value, refused_text, reply_text}
use Rattle.text.specs.Progress.{moved_text, progress_by, hint_text}
use Rattle.text.proofs.WordsLaws.{AtMost, append-le, choose-le, field-le, line-le, wider}
use Rattle.text.proofs.ReportLaws.{refused_text-le, reply_text-le, fault_number-lt, refusal_number-lt, refusal_number-ne}

module _ (gap : List ℕ) (h : Head) (m : ℕ) where
  -- ---- the reply to a report of what was saved
  refuses : (n : ℕ) (vs : List ℕ) → (n ≡ 0 → ⊥) → n < 40 → progress_by gap h m (reply n vs) ≡ refused_text n vs
  unfolding progress_by
  refuses n vs z l =
      choose_f _ (ne_eqb n 40 (λ e. omega arith))
      (choose_f _ (either_f (ne_eqb n 0 z) (ne_eqb n 41 (λ e. omega arith))) refl)

  module _ {r : Result Report Refusal} where
    by : {x : Reply} {t : List ℕ} (s : Result Report Refusal) → r ≡ s → reported s ≡ x → progress_by gap h m x ≡ t
        → progress_by gap h m (reported r) ≡ t
    by s e d q = ap (λ (y : Result Report Refusal). progress_by gap h m (reported y)) e ∙ ap (progress_by gap h m) d ∙ q

    pub progress_by-refused : (x : Refusal) → r ≡ Err x
        → progress_by gap h m (reported r) ≡ refused_text (refusal_number x) []
    progress_by-refused x e =
        by (Err x) e (reported-refused x) (refuses _ [] (refusal_number-ne x) (refusal_number-lt x))

    pub progress_by_unfinished : (d : ℕ) → r ≡ Ok (Unfinished d) → progress_by gap h m (reported r) ≡ moved_text gap h m d
    unfolding progress_by
    progress_by_unfinished d e = by (Ok (Unfinished d)) e (reported_unfinished d) (choose_t {a = eqb 40 40} _ refl refl)

    pub progress_by_record_aside : (i k : ℕ) → r ≡ Ok (RecordAside i k)
        → progress_by gap h m (reported r) ≡ moved_text gap h m h.n ++ reply_text h (reported r)
    unfolding progress_by
    progress_by_record_aside i k e =
        by (Ok (RecordAside i k)) e (reported_record_aside i k)
        (choose_f {a = eqb 41 40} _ refl (choose_t _ (either_f {a = eqb 41 0} {b = eqb 41 41} refl refl) refl))
        ∙ ap (λ (x : Reply). moved_text gap h m h.n ++ reply_text h x) (sym (ap reported e ∙ reported_record_aside i k))

    pub progress_by-given : (f : Figures) → r ≡ Ok (Given f)
        → progress_by gap h m (reported r) ≡ moved_text gap h m h.n ++ reply_text h (reported r)
    unfolding progress_by
    progress_by-given f e =
        by (Ok (Given f)) e (reported-given f)
        (choose_f {a = eqb 0 40} _ refl (choose_t _ (either_t {a = eqb 0 0} (eqb 0 41) refl) refl))
        ∙ ap (λ (x : Reply). moved_text gap h m h.n ++ reply_text h x) (sym (ap reported e ∙ reported-given f))

  -- ---- how long it is at most
  module _ (short : length gap ≤ 6) where
    moved_text-le : (d : ℕ) → AtMost 77 (moved_text gap h m d)
    unfolding moved_text
    moved_text-le d =
        append-le (append-le (field-le (ascii "moved ") m) (wider {n = 26} (field-le gap d) (omega arith)))
        (line-le (ascii " of ") h.n)

    pub progress_by-le : (r : Reply) → AtMost 304 (progress_by gap h m r)
    unfolding progress_by
    progress_by-le (reply n vs) =
        choose-le (eqb n 40) (wider (moved_text-le (value vs 0)) (omega arith))
        (choose-le (eqb n 0 either eqb n 41) (append-le (moved_text-le h.n) (reply_text-le h (reply n vs)))
        (wider (refused_text-le n vs) (omega arith)))

-- ---- the hint beside a refusal
pub hint_text-fresh : hint_text 30 ≡ ascii " isn't this book's checkpoint; wake BOOK CHECKPOINT BUDGET fresh starts anew\n"
unfolding hint_text
hint_text-fresh = choose_t _ (either_t {a = eqb 30 30} (eqb 30 31) refl) refl

none : (n : ℕ) → (n ≡ 30 → ⊥) → (n ≡ 31 → ⊥) → hint_text n ≡ []
unfolding hint_text
none n d e = choose_f _ (either_f (ne_eqb n 30 d) (ne_eqb n 31 e)) refl

module _ {x : Refusal} where
  pub hint_text_book : {f : Fault} → x ≡ Book f → hint_text (refusal_number x) ≡ []
  hint_text_book {f} e =
      let number = ap refusal_number e in
      let few = fault_number-lt f in
      none _ (λ q. omega arith) (λ q. omega arith)

  pub hint_text_30 : x ≡ CheckpointLength → hint_text (refusal_number x) ≡ hint_text 30
  hint_text_30 e = ap (λ (y : Refusal). hint_text (refusal_number y)) e

  pub hint_text_31 : x ≡ CheckpointUnsound → hint_text (refusal_number x) ≡ hint_text 30
  unfolding hint_text
  hint_text_31 e =
      ap (λ (y : Refusal). hint_text (refusal_number y)) e
      ∙ choose_t {a = eqb 31 30 either eqb 31 31} _ (either_f {a = eqb 31 30} {b = eqb 31 31} refl refl) (sym hint_text-fresh)

  pub hint_text_32 : x ≡ BufferLength → hint_text (refusal_number x) ≡ []
  hint_text_32 e =
      let number = ap refusal_number e in
      none _ (λ q. omega arith) (λ q. omega arith)
