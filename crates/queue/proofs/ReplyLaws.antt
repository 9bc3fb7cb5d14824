-- Two replies with other numbers are two. Assumes nothing.
use Prim.Native.Nat.{ℕ}
use mathlib.Core.List.{List}
use mathlib.Core.Path.{◌≡◌, sym, ap, ◌∙◌}
use Rattle.job.specs.Reply.{Reply, reply}

reply_number : Reply → ℕ
reply_number (reply n vs) = n

pub reply-apart : {r : Reply} {m n : ℕ} {us vs : List ℕ} → r ≡ reply m us → r ≡ reply n vs → (m ≡ n → ⊥) → ⊥
unfolding reply_number
reply-apart p q apart = apart (sym (ap reply_number p) ∙ ap reply_number q)
