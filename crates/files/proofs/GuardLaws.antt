-- No stop leaves a checkpoint beside the copy of another book than it was begun with; and a wake goes on
-- from such a checkpoint of its own book alone. Assumes nothing.
use Prim.Native.Nat.{ℕ, zero, suc}
use mathlib.Core.Bool.{Bool, true, false}
use mathlib.Core.List.{List}
use mathlib.Core.Option.{Option, none, some}
use mathlib.Core.Path.{◌≡◌, refl, sym, ap, ◌∙◌, subst}
use Rattle.std.specs.Prelude.{Ok}
use Rattle.choice.proofs.Splitting.{if_test}
use Rattle.choice.proofs.TestsLaws.{choose_t, choose_f}
use Rattle.roster.specs.Bytes.{same}
use Rattle.roster.proofs.BytesLaws.{same→eq}
use Rattle.files.specs.declared.copy.Compared.{Compared}
use Rattle.files.specs.declared.copy.Compared.TheVariants as compared
use Rattle.files.specs.declared.kept.Due.{Due}
use Rattle.files.specs.declared.kept.Due.TheVariants as due
use Rattle.files.specs.Kept.{Opens, DueOf}
use Rattle.files.specs.Guard.{Folder, Guarded, AtItsWord, compared_with, due_of, steps_for, stepped, stopped}

-- ---- what is due is due by the contract
pub due_of_due : (k : List ℕ) (c : Compared) (anew : Bool) → Opens k → DueOf (Ok (due_of c anew)) k anew
unfolding due_of
due_of_due k compared.Same true o = o
due_of_due k compared.Same false o = (o, refl)
due_of_due k compared.Missing true o = o
due_of_due k compared.Missing false o = (o, refl)
due_of_due k compared.Other anew o = o

-- ---- every stop
module _ (k : List ℕ) where
  -- Once the checkpoint is gone, or was begun with k, the other steps change nothing of that.
  anew_guarded : (i : ℕ) (f : Folder) → Guarded f → Guarded (stopped k i (steps_for due.Anew) f)
  unfolding steps_for stepped stopped
  anew_guarded zero f g = g
  anew_guarded (suc zero) f g = λ c b p q. cc
  anew_guarded (suc (suc zero)) f g = λ c b p q. cc
  anew_guarded (suc (suc (suc zero))) f g = λ c b p q. cc
  anew_guarded (suc (suc (suc (suc i)))) f g = λ c b p q. cc

  copy_guarded : (i : ℕ) (f : Folder) → f.copy ≡ none → AtItsWord f k → Guarded f
      → Guarded (stopped k i (steps_for due.Copy) f)
  unfolding steps_for stepped stopped
  copy_guarded zero f m w g = g
  copy_guarded (suc zero) f m w g = λ c b p q. let own = w b m q in cc
  copy_guarded (suc (suc zero)) f m w g = λ c b p q. cc
  copy_guarded (suc (suc (suc i))) f m w g = λ c b p q. cc

  nothing_guarded : (i : ℕ) (f : Folder) → f.copy ≡ some k → Guarded f
      → Guarded (stopped k i (steps_for due.Nothing) f)
  unfolding steps_for stepped stopped
  nothing_guarded zero f m g = g
  nothing_guarded (suc zero) f m g = λ c b p q. cc
  nothing_guarded (suc (suc i)) f m g = λ c b p q. cc

-- ---- how the copy stands to the book
module _ (c k : List ℕ) where
  pub compared_same : same c k ≡ true → compared_with (some c) k ≡ compared.Same
  unfolding compared_with
  compared_same t = choose_t compared.Other t refl

  pub compared_other : same c k ≡ false → compared_with (some c) k ≡ compared.Other
  unfolding compared_with
  compared_other t = choose_f compared.Same t refl

-- What is due for a wake of k in the folder f is `due_of (compared_with f.copy k) anew`.
module _ (k : List ℕ) (f : Folder) (anew : Bool) where
  -- By what stands in the place of the copy.
  by_copy : (P : Due → Type 0) → (f.copy ≡ none → P (due_of compared.Missing anew))
      → (f.copy ≡ some k → P (due_of compared.Same anew)) → P due.Anew
      → P (due_of (compared_with f.copy k) anew)
  unfolding due_of compared_with
  by_copy P missing own other = at f.copy refl
    where
      at : (c : Option (List ℕ)) → f.copy ≡ c → P (due_of (compared_with c k) anew)
      at none e = missing e
      at (some c) e = if_test (same c k)
          (λ t. subst (λ x. P (due_of x anew)) (sym (compared_same c k t)) (own (e ∙ ap some (same→eq c k t))))
          (λ t. subst (λ x. P (due_of x anew)) (sym (compared_other c k t)) other)

  -- Stopped after any of its steps, a wake leaves no checkpoint beside the copy of another book.
  pub guarded_stopped : Guarded f → AtItsWord f k → (i : ℕ)
      → Guarded (stopped k i (steps_for (due_of (compared_with f.copy k) anew)) f)
  unfolding due_of
  guarded_stopped g w i =
      by_copy (λ d. Guarded (stopped k i (steps_for d) f)) (missing anew) (own anew) (anew_guarded k i f g)
    where
      missing : (a : Bool) → f.copy ≡ none → Guarded (stopped k i (steps_for (due_of compared.Missing a)) f)
      missing true e = anew_guarded k i f g
      missing false e = copy_guarded k i f e w g

      own : (a : Bool) → f.copy ≡ some k → Guarded (stopped k i (steps_for (due_of compared.Same a)) f)
      own true e = anew_guarded k i f g
      own false e = nothing_guarded k i f e g

  -- After all of them, both are this book's.
  abbrev Settled : Due → Type 0
  Settled d = ((stopped k 3 (steps_for d) f).copy ≡ some k) × ((stopped k 3 (steps_for d) f).begun ≡ some k)

  pub stopped_settled : Settled (due_of (compared_with f.copy k) anew)
  unfolding due_of steps_for stepped stopped
  stopped_settled = by_copy Settled (missing anew) (own anew) (refl, refl)
    where
      missing : (a : Bool) → f.copy ≡ none → Settled (due_of compared.Missing a)
      missing true e = (refl, refl)
      missing false e = (refl, refl)

      own : (a : Bool) → f.copy ≡ some k → Settled (due_of compared.Same a)
      own true e = (refl, refl)
      own false e = (e, refl)

  -- A wake that leaves a checkpoint beside its copy, and so goes on from it, goes on from one of its own book.
  pub begun_own : Guarded f → due_of (compared_with f.copy k) anew ≡ due.Nothing
      → (b : List ℕ) → f.begun ≡ some b → b ≡ k
  unfolding due_of
  begun_own g e b q = by_copy (λ d. d ≡ due.Nothing → b ≡ k) (missing anew) (λ own n. g k b own q) (λ n. cc) e
    where
      missing : (a : Bool) → f.copy ≡ none → due_of compared.Missing a ≡ due.Nothing → b ≡ k
      missing true m n = cc
      missing false m n = cc
