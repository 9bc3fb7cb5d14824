-- A reply as a C caller gets it: one word, and a buffer for figures. include/wetherstep.h has them
-- in words.
--
--     packed n k m d c       the word with the number n, the reason k, the method m, the ledger d and the
--                            count c
--     word_of r               the word of a reply
--     figures_after r fs      the buffer for figures after the reply r, which held fs before
--
-- Laws: proofs/FaceLaws.antt. Definitions only.
use Rattle.std.specs.Prelude.{ℕ, ◌+◌, ◌*◌, List, [], ◌∷◌, nat_eq, length}
use Rattle.choice.specs.Tests.{◌also◌, choose}
use Rattle.job.specs.Reply.{Reply, reply}

-- Bits 0 to 7, 8 to 15, 16 to 23, 24 to 31 and 32 to 63. Method and ledger are told of a record alone.
unfoldable pub packed : ℕ → ℕ → ℕ → ℕ → ℕ → ℕ
packed n k m d c = n + 256 * k + 65536 * m + 16777216 * d + 4294967296 * c

-- A reply has no value, a count, an index and a reason, or figures, which have their own buffer.
unfoldable pub word_of : Reply → ℕ
word_of (reply n []) = packed n 0 0 0 0
word_of (reply n (c ∷ [])) = packed n 0 0 0 c
word_of (reply n (i ∷ k ∷ [])) = packed n k 0 0 i
word_of (reply n (a ∷ b ∷ c ∷ vs)) = packed n 0 0 0 0

-- Six figures are written, and nothing else is.
unfoldable pub figures_after : Reply → List ℕ → List ℕ
figures_after (reply n vs) fs = choose (nat_eq (length vs) 6 also nat_eq n 0) vs fs
