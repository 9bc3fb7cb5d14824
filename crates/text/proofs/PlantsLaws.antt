-- What is told of each mistake and of each verdict on a list, and how long it is at most. Assumes nothing.
use Prim.Native.Nat.{ℕ, ◌+◌}
use mathlib.Core.List.{List, [], ◌++◌}
use mathlib.Core.Path.{◌≡◌, refl, sym, ap, ◌∙◌}
use native.Mathlib.Omega.{arith}
use Rattle.roster.specs.declared.mistake.Mistake.{Mistake}
use Rattle.roster.specs.declared.mistake.Mistake.TheVariants.{Comment, Return, Space, Long, Form}
use Rattle.std.specs.Prelude.{Result, Ok, Err}
use Rattle.roster.specs.declared.plants.Fault.{Fault}
use Rattle.roster.specs.declared.plants.Fault.TheVariants.{Wrong, Again, Many}
use Rattle.roster.specs.Lines.{line_at}
use Rattle.roster.specs.Mistake.{mistake_in}
use Rattle.text.specs.Words.{ascii, field}
use Rattle.text.specs.Plants.{mistake_text, wrong_text, fault_text}
use Rattle.text.specs.declared.page.Page.{Page}
use Rattle.text.specs.Extended.{extended}
use Rattle.text.proofs.PageLaws.{extended_none}
use Rattle.text.proofs.WordsLaws.{AtMost, append-le, word-le, field-le, wider}

-- What a page has once its line is said. The mistake that was found is the one that is told.
module _ (p : Page) where
  pub wrong_text_said : {q : Page} {x : Mistake} {w : List ℕ} (i : ℕ) (l : List ℕ) → x ≡ mistake_in l → w ≡ mistake_text x
      → q ≡ extended p (field (ascii "line ") (i + 1) ++ w) → q ≡ extended p (wrong_text i l)
  unfolding wrong_text
  wrong_text_said i l e d s = rw (← e, ← d) s

-- What is told of each verdict.
module _ (t : List ℕ) {x : Result ℕ Fault} where
  pub fault_text-plants : {n : ℕ} → x ≡ Ok n → fault_text t x ≡ []
  unfolding fault_text
  fault_text-plants e = ap (fault_text t) e

  pub fault_text_wrong : {l : List ℕ} (i : ℕ) → l ≡ line_at i t → x ≡ Err (Wrong i) → fault_text t x ≡ wrong_text i l
  unfolding fault_text
  fault_text_wrong i e d = ap (fault_text t) d ∙ ap (wrong_text i) (sym e)

  pub fault_text_again : {i : ℕ} → x ≡ Err (Again i)
      → fault_text t x ≡ field (ascii "line ") (i + 1) ++ ascii " names a checkpoint again\n"
  unfolding fault_text
  fault_text_again e = ap (fault_text t) e

  pub fault_text_many : x ≡ Err Many → fault_text t x ≡ ascii "more than 16 plants\n"
  unfolding fault_text
  fault_text_many e = ap (fault_text t) e

-- What a page has once it is said.
module _ (p : Page) where
  pub fault_text_right : (t : List ℕ) (n : ℕ) → p ≡ extended p (fault_text t (Ok n))
  unfolding fault_text
  fault_text_right t n = extended_none p

  pub fault_said_wrong : {q : Page} {l : List ℕ} (t : List ℕ) (i : ℕ) → l ≡ line_at i t
      → q ≡ extended p (wrong_text i l) → q ≡ extended p (fault_text t (Err (Wrong i)))
  fault_said_wrong t i e s = s ∙ ap (extended p) (sym (fault_text_wrong t i e refl))

  pub fault_said_again : {q : Page} {x : Result ℕ Fault} {f : Fault} {i : ℕ} (t : List ℕ) → x ≡ Err f → f ≡ Again i
      → q ≡ extended p (field (ascii "line ") (i + 1) ++ ascii " names a checkpoint again\n")
      → q ≡ extended p (fault_text t x)
  fault_said_again t e d s = s ∙ ap (extended p) (sym (fault_text_again t (e ∙ ap Err d)))

  pub fault_said_many : {q : Page} {x : Result ℕ Fault} {f : Fault} (t : List ℕ) → x ≡ Err f → f ≡ Many
      → q ≡ extended p (ascii "more than 16 plants\n") → q ≡ extended p (fault_text t x)
  fault_said_many t e d s = s ∙ ap (extended p) (sym (fault_text_many t (e ∙ ap Err d)))

pub ruleset fault_steps = (wrong_text_said, fault_text_right, fault_said_wrong)

-- ---- how long it is at most
mistake_text-le : (x : Mistake) → AtMost 53 (mistake_text x)
mistake_text-le Comment = wider (word-le (ascii " is a comment, and a list has none\n")) (omega arith)
mistake_text-le Return = word-le (ascii " ends in a return: save the list with plain newlines\n")
mistake_text-le Space = wider (word-le (ascii " has a space too many: no path in a list has one\n")) (omega arith)
mistake_text-le Long = wider (word-le (ascii " has a path that is too long\n")) (omega arith)
mistake_text-le Form = wider (word-le (ascii " isn't BOOK CHECKPOINT\n")) (omega arith)

wrong_text-le : (i : ℕ) (l : List ℕ) → AtMost 78 (wrong_text i l)
unfolding wrong_text
wrong_text-le i l = append-le (field-le (ascii "line ") (i + 1)) (mistake_text-le (mistake_in l))

pub fault_text-le : (t : List ℕ) (x : Result ℕ Fault) → AtMost 78 (fault_text t x)
unfolding fault_text
fault_text-le t (Ok n) = wider (word-le []) (omega arith)
fault_text-le t (Err (Wrong i)) = wrong_text-le i (line_at i t)
fault_text-le t (Err (Again i)) =
    wider (append-le (field-le (ascii "line ") (i + 1)) (word-le (ascii " names a checkpoint again\n"))) (omega arith)
fault_text-le t (Err Many) = wider (word-le (ascii "more than 16 plants\n")) (omega arith)
