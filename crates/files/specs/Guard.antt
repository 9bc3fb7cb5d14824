-- How a checkpoint is kept from passing for another book's: the order in which a folder changes.
-- RULES, "The book of a checkpoint".
--
--     Folder             what is in a job's folder, where it is there: the book that the copy is, and the
--                        book that the checkpoint was begun with
--     compared_with c k   how the copy c stands to the book k
--     due_of c anew       what is due by that, anew saying that a new start is asked for
--     Step               a change that no stop divides: the checkpoint goes, the copy is saved, a checkpoint is
--     steps_for d         the steps of a wake for which d is due
--     stepped k s f      the folder f after the step s of a wake of k
--     stopped k i ss f   the folder f after the first i of the steps ss
--     Guarded f          a checkpoint beside a copy was begun with that copy's book
--     AtItsWord f k      a checkpoint with no copy was begun with k, as whoever has no copy must believe
--
-- Laws: proofs/GuardLaws.antt. Definitions only.
use Rattle.std.specs.Prelude.{ℕ, zero, suc, Bool, true, false, List, [], ◌∷◌, ◌≡◌}
use Rattle.std.proofs.Math.Option.{Option, none, some}
use Rattle.choice.specs.Tests.{choose}
use Rattle.roster.specs.Bytes.{same}
use Rattle.files.specs.declared.copy.Compared.{Compared}
use Rattle.files.specs.declared.copy.Compared.TheVariants as compared
use Rattle.files.specs.declared.kept.Due.{Due}
use Rattle.files.specs.declared.kept.Due.TheVariants as due

pub record Folder : Type 0 where
  pub copy : Option (List ℕ)
  pub begun : Option (List ℕ)

-- ---- what is due
unfoldable pub compared_with : Option (List ℕ) → List ℕ → Compared
compared_with none k = compared.Missing
compared_with (some c) k = choose (same c k) compared.Same compared.Other

unfoldable pub due_of : Compared → Bool → Due
due_of compared.Same true = due.Anew
due_of compared.Same false = due.Nothing
due_of compared.Missing true = due.Anew
due_of compared.Missing false = due.Copy
due_of compared.Other anew = due.Anew

-- ---- the steps of a wake
pub data Step : Type 0 where
  removed : Step
  copied : Step
  saved : Step

unfoldable pub steps_for : Due → List Step
steps_for due.Nothing = saved ∷ []
steps_for due.Copy = copied ∷ saved ∷ []
steps_for due.Anew = removed ∷ copied ∷ saved ∷ []

unfoldable pub stepped : List ℕ → Step → Folder → Folder
stepped k removed f = record { copy = f.copy; begun = none }
stepped k copied f = record { copy = some k; begun = f.begun }
stepped k saved f = record { copy = f.copy; begun = some k }

unfoldable pub stopped : List ℕ → ℕ → List Step → Folder → Folder
stopped k zero ss f = f
stopped k (suc i) [] f = f
stopped k (suc i) (s ∷ ss) f = stopped k i ss (stepped k s f)

-- ---- what holds at every instant
abbrev pub Guarded : Folder → Type 0
Guarded f = (c b : List ℕ) → f.copy ≡ some c → f.begun ≡ some b → b ≡ c

abbrev pub AtItsWord : Folder → List ℕ → Type 0
AtItsWord f k = (b : List ℕ) → f.copy ≡ none → f.begun ≡ some b → b ≡ k
