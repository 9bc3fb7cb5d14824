-- What a fresh start and a wake reply and write. RULES, "Calls" and "Numbers".
--
--     if_open a refuse go                refuse with the number that refused a book, or go with its head
--     fresh_admitted k out refuse go     the first number that refuses a fresh start, or what it does otherwise
--     fresh_reply k out                  the reply to a fresh start
--     fresh_bytes k out                  the output buffer after it
--     admitted_for h c                   the head h of a book, or the number that refuses c as its checkpoint
--     admitted k c                       the head of the book k, or the first number that refuses k or c
--     wake_admitted k c out refuse go    the first number that refuses a wake, or what it does otherwise
--     moves h c b                        how many records a wake with budget b goes through
--     wake_reply k c b out               the reply to a wake
--     wake_bytes k c b out               the output buffer after it
--
-- Laws: proofs/WakeLaws.antt. Definitions only.
use Rattle.std.specs.Prelude.{ℕ, ◌-◌, min, List, [], ◌∷◌, nat_eq, length}
use Rattle.choice.specs.Tests.{choose}
use Rattle.rules.specs.declared.book.Head.{Head}
use Rattle.rules.specs.Book.{Answer, refused, accepted, opened}
use Rattle.job.specs.State.{fresh, run}
use Rattle.job.specs.Checkpoint.{checkpoint_size, done_in, sound, decode, encode}
use Rattle.job.specs.Reply.{Reply, reply}

unfoldable pub if_open : {A : Type 0} → Answer → (ℕ → A) → (Head → A) → A
if_open (refused n) refuse go = refuse n
if_open (accepted h) refuse go = go h

-- ---- a fresh start
unfoldable pub fresh_admitted : {A : Type 0} → List ℕ → List ℕ → (ℕ → A) → (Head → A) → A
fresh_admitted k out refuse go =
    if_open (opened k) refuse (λ h.
    choose (nat_eq (length out) checkpoint_size) (go h)
    (refuse 32))

unfoldable pub fresh_reply : List ℕ → List ℕ → Reply
fresh_reply k out = fresh_admitted k out (λ n. reply n []) (λ h. reply 0 [])

unfoldable pub fresh_bytes : List ℕ → List ℕ → List ℕ
fresh_bytes k out = fresh_admitted k out (λ n. out) (λ h. encode h fresh)

-- ---- a checkpoint
unfoldable pub admitted_for : Head → List ℕ → Answer
admitted_for h c =
    choose (nat_eq (length c) checkpoint_size)
    (choose (sound h c) (accepted h)
    (refused 31))
    (refused 30)

unfoldable pub admitted : List ℕ → List ℕ → Answer
admitted k c = if_open (opened k) refused (λ h. admitted_for h c)

-- ---- a wake
unfoldable pub wake_admitted : {A : Type 0} → List ℕ → List ℕ → List ℕ → (ℕ → A) → (Head → A) → A
wake_admitted k c out refuse go =
    if_open (admitted k c) refuse (λ h.
    choose (nat_eq (length out) checkpoint_size) (go h)
    (refuse 32))

unfoldable pub moves : Head → List ℕ → ℕ → ℕ
moves h c b = min b (h.n - done_in c)

unfoldable pub wake_reply : List ℕ → List ℕ → ℕ → List ℕ → Reply
wake_reply k c b out = wake_admitted k c out (λ n. reply n []) (λ h. reply 0 (moves h c b ∷ []))

unfoldable pub wake_bytes : List ℕ → List ℕ → ℕ → List ℕ → List ℕ
wake_bytes k c b out = wake_admitted k c out (λ n. out) (λ h. encode h (run h k (decode c) (moves h c b)))
