-- What fresh starts and wakes of one book have left behind. RULES, "Calls".
--
--     Starts k c            an accepted fresh start of the book k saved c
--     Wakes k c b m d       an accepted wake from c with budget b went through m records and saved d
--     History k cs          cs are the checkpoints left so far, the newest first: each wake used any of
--                           those before it
--     InTurn k t c          c is the latest checkpoint, and t the sum of the budgets, where each wake used
--                           the latest
--
-- A wake that is cut before its checkpoint is saved leaves nothing, so that there is no case for it.
-- Laws: proofs/HistoryLaws.antt. Definitions only.
use Rattle.std.specs.Prelude.{ℕ, ◌+◌, ◌≡◌}
use mathlib.Core.List.{List, [], ◌∷◌, Memᴰ}
use Rattle.job.specs.Reply.{reply}
use Rattle.job.specs.Wake.{fresh_reply, fresh_bytes, wake_reply, wake_bytes}

pub record Starts (k c : List ℕ) : Type 0 where
  pub out : List ℕ
  pub accepts : fresh_reply k out ≡ reply 0 []
  pub saves : c ≡ fresh_bytes k out

pub record Wakes (k c : List ℕ) (b m : ℕ) (d : List ℕ) : Type 0 where
  pub out : List ℕ
  pub accepts : wake_reply k c b out ≡ reply 0 (m ∷ [])
  pub saves : d ≡ wake_bytes k c b out

pub data History (k : List ℕ) : List (List ℕ) → Type 0 where
  begun : {c : List ℕ} → Starts k c → History k (c ∷ [])
  woken : {cs : List (List ℕ)} {c : List ℕ} {b m : ℕ} {d : List ℕ}
      → History k cs → Memᴰ c cs → Wakes k c b m d → History k (d ∷ cs)

pub data InTurn (k : List ℕ) : ℕ → List ℕ → Type 0 where
  begun : {c : List ℕ} → Starts k c → InTurn k 0 c
  woken : {t : ℕ} {c : List ℕ} {b m : ℕ} {d : List ℕ} → InTurn k t c → Wakes k c b m d → InTurn k (t + b) d
