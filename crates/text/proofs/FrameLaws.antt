-- What frames say, part by part; each answer is 64 bytes long, and what is told of a broken frame fits on a page.
-- Assumes nothing.
use Prim.Native.Nat.{ℕ, ◌+◌}
use mathlib.Core.Bool.{Bool, true, false, ◌&&◌}
use mathlib.Core.List.{List, [], ◌∷◌, ◌++◌}
use mathlib.Core.Path.{◌≡◌, refl, sym, ap, ap₂, ◌∙◌}
use native.Mathlib.Omega.{arith}
use lib.Dec.{eqb}
use lib.ListN.{length, length-append}
use borrow.Author.Tests.{eq-eqb, ne_eqb}
use Rattle.std.specs.Prelude.{Some, None, Ok, Err}
use Rattle.std.specs.Cmp.Lexicographic.{pointwise}
use Rattle.choice.specs.Tests.{choose}
use Rattle.choice.proofs.Splitting.{if_test, if_eq}
use Rattle.choice.proofs.TestsLaws.{also_t, also_f, choose_t, choose_f}
use Rattle.rules.specs.declared.book.Fault.{Fault}
use Rattle.rules.specs.Bytes.{bytes_of}
use Rattle.rules.specs.Book.{fault_number}
use Rattle.rules.specs.Reader.{Shown, shown, sight}
use Rattle.rules.proofs.BytesLaws.{length-bytes_of}
use Rattle.rules.proofs.ReaderLaws.{sight-refused, sight-missing, sight_record}
use Rattle.text.specs.declared.frame.Broken.{Broken}
use Rattle.text.specs.declared.frame.Broken.TheVariants.{Head, Cut}
use Rattle.text.specs.declared.frame.Frame.{Frame}
use Rattle.text.specs.declared.frame.Told.{Told}
use Rattle.text.specs.declared.page.Page.{Page}
use Rattle.text.specs.Page.{page_of}
use Rattle.text.specs.Extended.{blank, extended}
use Rattle.text.specs.Words.{ascii}
use Rattle.text.specs.Frame.{head_size, head_ok, frame_in, asked_in, call_answer, number_of, same, figure, figures_part, change_part, report_part, report_answer, uncounted, told_of, told_bytes, breach_text, broken_text}
use Rattle.text.proofs.PageLaws.{extended-blank}
use Rattle.text.proofs.WordsLaws.{AtMost, append-le, word-le, field-le, wider}

-- ---- the head of a call
module _ (head : List ℕ) where
  pub asked_in-length : (length head ≡ head_size → ⊥) → None ≡ asked_in head
  unfolding asked_in
  asked_in-length n = sym (choose_f _ (also_f (head_ok head) (ne_eqb (length head) head_size n)) refl)

  module _ (whole : length head ≡ head_size) where
    pub asked_in_bad : head_ok head ≡ false → None ≡ asked_in head
    unfolding asked_in
    asked_in_bad h = sym (choose_f _ (also_t (eq-eqb (length head) head_size whole) h) refl)

    pub asked_in_right : {f : Frame} → head_ok head ≡ true → f ≡ frame_in head → Some f ≡ asked_in head
    unfolding asked_in
    asked_in_right h e = ap Some e ∙ sym (choose_t None (also_t (eq-eqb (length head) head_size whole) h) refl)

-- ---- how long each answer is
record Long (s : List ℕ) (m : ℕ) : Type 0 where
  pub long : length s ≡ m

long_bytes : (n v : ℕ) → Long (bytes_of n v) n
long_bytes n v = record { long = length-bytes_of n v }

long_append : {s t : List ℕ} {m n : ℕ} → Long s m → Long t n → Long (s ++ t) (m + n)
long_append {s} {t} p q = record { long = length-append s t ∙ ap₂ ◌+◌ p.long q.long }

long_more : {s : List ℕ} {m : ℕ} (n v : ℕ) → Long s m → Long (s ++ bytes_of n v) (m + n)
long_more n v p = long_append p (long_bytes n v)

-- Every answer has so many bytes.
abbrev answer_size : ℕ
answer_size = 64

pub length-call_answer : (w : ℕ) → length (call_answer w) ≡ answer_size
unfolding call_answer
length-call_answer w = (long_more 56 0 (long_bytes 8 w)).long

long_figures_part : (fs : List ℕ) → Long (figures_part fs) 42
unfolding figures_part
long_figures_part fs =
    let two = long_more 8 (figure fs 1) (long_bytes 8 (figure fs 0)) in
    let four = long_more 8 (figure fs 3) (long_more 8 (figure fs 2) two) in
    long_more 1 0 (long_more 1 (figure fs 5) (long_more 8 (figure fs 4) four))

long_change_part : (before after : List ℕ) → Long (change_part before after) 42
unfolding change_part
long_change_part before after = long_more 1 (choose (same before after) 0 1) (long_bytes 41 0)

long_report_part : (n : ℕ) (before after : List ℕ) → Long (report_part n before after) 42
unfolding report_part
long_report_part n before after = record {
  long =
      if_eq n 0
      (λ z. ap length (choose_t _ (eq-eqb n 0 z) refl) ∙ (long_figures_part after).long)
      (λ z. ap length (choose_f _ (ne_eqb n 0 z) refl) ∙ (long_change_part before after).long);
}

pub length-report_answer : (w : ℕ) (before after : List ℕ) → length (report_answer w before after) ≡ answer_size
unfolding report_answer
length-report_answer w before after =
    (long_more 14 0 (long_append (long_bytes 8 w) (long_report_part (number_of w) before after))).long

pub length-told_bytes : (t : Told) → length (told_bytes t) ≡ answer_size
unfolding told_bytes
length-told_bytes t =
    let numbers = long_more 1 t.reason (long_bytes 1 t.number) in
    let front = long_more 4 0 (long_more 1 t.ledger (long_more 1 t.method numbers)) in
    let masses = long_more 8 t.n2o.0 (long_more 8 t.ch4.0 (long_more 8 t.co2.0 front)) in
    (long_more 32 0 masses).long

-- An answer fits on a page.
pub answer-page_of : {p q : Page} (t : List ℕ) → p ≡ blank → q ≡ extended p t → length t ≡ answer_size → q ≡ page_of t
answer-page_of t e d l = extended-blank t e d (omega arith)

-- ---- figures that a report left as they were
pub same-pointwise : (xs ys : List ℕ) → pointwise eqb xs ys ≡ same xs ys
unfolding same
same-pointwise [] [] = refl
same-pointwise [] (y ∷ ys) = refl
same-pointwise (x ∷ xs) [] = refl
same-pointwise (x ∷ xs) (y ∷ ys) =
    if_test (eqb x y)
    (λ e. ap (λ (b : Bool). b && pointwise eqb xs ys) e ∙ same-pointwise xs ys ∙ sym (also_t e refl))
    (λ e. ap (λ (b : Bool). b && pointwise eqb xs ys) e ∙ sym (also_f (same xs ys) e))

-- ---- what is told of what was seen
pub told_of-refused : {t : Told} {n : ℕ} (x : Fault) → n ≡ fault_number x → t ≡ uncounted n 0 0
    → t ≡ told_of (sight (Err x))
unfolding told_of
told_of-refused x e d =
    d ∙ ap (λ (n : ℕ). uncounted n 0 0) e ∙ ap told_of (sym (sight-refused x))

pub told_of-missing : {t : Told} → t ≡ uncounted 0 0 255 → t ≡ told_of (sight (Ok None))
unfolding told_of
told_of-missing d = d ∙ ap told_of (sym sight-missing)

pub told_of_record : {t : Told} (o : Shown) → t ≡ told_of (shown o) → t ≡ told_of (sight (Ok (Some o)))
told_of_record o d = d ∙ ap told_of (sym (sight_record o))

-- ---- how long what is told of a broken frame is at most
breach_text-le : (x : Broken) → AtMost 34 (breach_text x)
breach_text-le Head = word-le (ascii " has a head that breaks the rules\n")
breach_text-le Cut = wider (word-le (ascii " is cut short\n")) (omega arith)

pub broken_text-le : (i : ℕ) (x : Broken) → AtMost 60 (broken_text i x)
unfolding broken_text
broken_text-le i x = append-le (field-le (ascii "frame ") i) (breach_text-le x)
