-- What is told of a line that isn't a plant's. RULES, "List of plants".
--
--     return            the byte that some systems put before a newline
--     last_byte l       the last byte of the line l; 0, if it has none
--     spaces l          how many spaces l has
--     is_long l         its BOOK or its CHECKPOINT is longer than a plant's may be
--     mistake_in l      the first mistake in l that has a name, or Form
--
-- Laws: proofs/MistakeLaws.antt. Definitions only.
use Rattle.std.specs.Prelude.{ℕ, suc, ◌-◌, Bool, List, [], ◌∷◌, nat_eq, nat_lt, nat_le, length, slice_index}
use Rattle.choice.specs.Tests.{◌either◌, choose}
use Rattle.roster.specs.declared.mistake.Mistake.{Mistake}
use Rattle.roster.specs.declared.mistake.Mistake.TheVariants.{Comment, Return, Space, Long, Form}
use Rattle.roster.specs.Plants.{longest_book_path, longest_checkpoint_path, space, book_of, checkpoint_of, is_comment}

abbrev pub return : ℕ
return = 13

abbrev pub last_byte : List ℕ → ℕ
last_byte l = slice_index l (length l - 1)

unfoldable pub spaces : List ℕ → ℕ
spaces [] = 0
spaces (b ∷ l) = choose (nat_eq b space) (suc (spaces l)) (spaces l)

unfoldable pub is_long : List ℕ → Bool
is_long l = nat_lt longest_book_path (length (book_of l)) either nat_lt longest_checkpoint_path (length (checkpoint_of l))

unfoldable pub mistake_in : List ℕ → Mistake
mistake_in l =
    choose (is_comment l) Comment
    (choose (nat_eq (last_byte l) return) Return
    (choose (nat_le 2 (spaces l)) Space
    (choose (is_long l) Long
    Form)))
