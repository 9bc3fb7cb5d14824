-- What ties a job to its book, where it stands between its files, and what came of a wake of it, in the
-- replies of `job`.
--
--     Opens k               the book k is accepted
--     DueOf r k anew        r is what can be due for a wake of k: its refusal, or else anything but to leave
--                           a checkpoint as it is where a new start is asked for
--     Came                  what came of a call: a reply of the job, or that a file can't be read or saved
--     placed r              what the place r says: a checkpoint of so many bytes, or a refusal
--     counting n w          the reply w, which says n too if it accepts
--     anew_reply k room      the reply to a fresh start in the first bytes of room, and how many these are
--     anew_bytes k room      the room afterwards
--     Found r k room now    r is what a look for a checkpoint can come to, which leaves now in place of
--                           room: so many of its bytes, the refusal of a fresh start, or a failure
--     Begun r k room now    r is what a fresh start in place of a checkpoint can come to: that start, or a
--                           failure
--     FoundBy d r k room now   r is where a job stands for which d is due
--     Accepts w             the reply w accepts a wake
--     Saved r w             r is what a wake that replies w can come to: the reply itself or, if it
--                           accepts, a failure to save
--
-- Laws: proofs/KeptLaws.antt. Definitions only.
use Rattle.std.specs.Prelude.{ℕ, zero, suc, List, [], ◌∷◌, ◌++◌, ◌≡◌, length, drop, Bool, false, Result, Ok, Err}
use Rattle.io.specs.Counts.{IsPrefixLen}
use Rattle.rules.specs.declared.book.Head.{Head}
use Rattle.rules.specs.Book.{opened, refused, accepted}
use Rattle.job.specs.Checkpoint.{checkpoint_size}
use Rattle.job.specs.Reply.{Reply, reply, refusal_number}
use Rattle.job.specs.Wake.{fresh_reply, fresh_bytes}
use Rattle.files.specs.declared.kept.Due.{Due}
use Rattle.files.specs.declared.kept.Due.TheVariants as due
use Rattle.files.specs.declared.kept.Stopped.{Stopped}
use Rattle.files.specs.declared.kept.Stopped.TheVariants as stopped
use Rattle.files.specs.Put.{front}

pub data Came : Type 0 where
  replied : Reply → Came
  failed : Came

-- ---- what is due
pub record Opens (k : List ℕ) : Type 0 where
  pub head : Head
  pub opens : opened k ≡ accepted head

abbrev pub DueOf : Result Due Stopped → List ℕ → Bool → Type 0
DueOf (Ok due.Nothing) k anew = Opens k × (anew ≡ false)
DueOf (Ok due.Copy) k anew = Opens k × (anew ≡ false)
DueOf (Ok due.Anew) k anew = Opens k
DueOf (Err (stopped.Refused x)) k anew = opened k ≡ refused (refusal_number x)
DueOf (Err stopped.Failed) k anew = Opens k

-- ---- where a job stands
unfoldable pub placed : Result ℕ Stopped → Came
placed (Ok n) = replied (reply 0 (n ∷ []))
placed (Err (stopped.Refused x)) = replied (reply (refusal_number x) [])
placed (Err stopped.Failed) = failed

unfoldable pub counting : ℕ → Reply → Reply
counting n (reply zero vs) = reply 0 (n ∷ [])
counting n (reply (suc m) vs) = reply (suc m) vs

unfoldable pub anew_reply : List ℕ → List ℕ → Reply
anew_reply k room = counting (length (front checkpoint_size room)) (fresh_reply k (front checkpoint_size room))

unfoldable pub anew_bytes : List ℕ → List ℕ → List ℕ
anew_bytes k room = fresh_bytes k (front checkpoint_size room) ++ drop checkpoint_size room

abbrev pub Found : Result ℕ Stopped → List ℕ → List ℕ → List ℕ → Type 0
Found (Ok n) k room now = IsPrefixLen n now
Found (Err (stopped.Refused x)) k room now =
    (placed (Err (stopped.Refused x)) ≡ replied (anew_reply k room)) × (now ≡ room)
Found (Err stopped.Failed) k room now = Unit {0}

abbrev pub Begun : Result ℕ Stopped → List ℕ → List ℕ → List ℕ → Type 0
Begun (Ok n) k room now = (placed (Ok n) ≡ replied (anew_reply k room)) × (now ≡ anew_bytes k room)
Begun (Err (stopped.Refused x)) k room now =
    (placed (Err (stopped.Refused x)) ≡ replied (anew_reply k room)) × (now ≡ anew_bytes k room)
Begun (Err stopped.Failed) k room now = Unit {0}

abbrev pub FoundBy : Result Due Stopped → Result ℕ Stopped → List ℕ → List ℕ → List ℕ → Type 0
FoundBy (Ok due.Nothing) r k room now = Found r k room now
FoundBy (Ok due.Copy) r k room now = Found r k room now
FoundBy (Ok due.Anew) r k room now = Begun r k room now
FoundBy (Err why) r k room now = (r ≡ Err why) × (now ≡ room)

-- ---- a wake
pub record Accepts (w : Reply) : Type 0 where
  pub moved : ℕ
  pub accepts : w ≡ reply 0 (moved ∷ [])

abbrev pub Saved : Result ℕ Stopped → Reply → Type 0
Saved (Ok m) w = w ≡ reply 0 (m ∷ [])
Saved (Err (stopped.Refused x)) w = w ≡ reply (refusal_number x) []
Saved (Err stopped.Failed) w = Accepts w
