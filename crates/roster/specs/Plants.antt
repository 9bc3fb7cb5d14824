-- What makes a list of plants right, and which fault is told. RULES, "List of plants".
--
--     most_plants                 16
--     longest_book_path           4,095
--     longest_checkpoint_path     4,083
--     space                       the byte between BOOK and CHECKPOINT
--     hash                        the byte `#`
--     visible w                   every byte of w is above 32
--     is_word m w                 w is a word of at most m bytes
--     book_of l                   the BOOK that the line l names
--     checkpoint_of l             the CHECKPOINT that the line l names
--     is_comment l                l begins with `#`
--     is_plant l                  l is a plant's line
--     index_from j n w ws         where w first stands in ws, whose first is number j; n, if it doesn't
--     named_before cs i l         a line before line i names the CHECKPOINT of l, cs being those of the whole list
--     verdict_from cs i ls u      what is told of the lines ls, the first of them line i of the list, and of the
--                                 unended u after them, cs being the CHECKPOINTs of the whole list
--     verdict_on t                what is told of the list t: how many plants it names, or its first fault
--
-- Laws: proofs/PlantsLaws.antt, proofs/VerdictLaws.antt, proofs/ToldLaws.antt. Definitions only.
use Rattle.std.specs.Prelude.{ℕ, suc, Bool, true, not, List, [], ◌∷◌, map, nat_eq, nat_lt, nat_le, length, slice_index, Result, Ok, Err}
use Rattle.choice.specs.Tests.{◌also◌, choose}
use Rattle.roster.specs.declared.plants.Fault.{Fault}
use Rattle.roster.specs.declared.plants.Fault.TheVariants.{Wrong, Again, Many}
use Rattle.roster.specs.Bytes.{front, rest, same}
use Rattle.roster.specs.Lines.{split, lines_of}

abbrev pub most_plants : ℕ
most_plants = 16

abbrev pub longest_book_path : ℕ
longest_book_path = 4095

abbrev pub longest_checkpoint_path : ℕ
longest_checkpoint_path = 4083

abbrev pub space : ℕ
space = 32

abbrev pub hash : ℕ
hash = 35

unfoldable pub visible : List ℕ → Bool
visible [] = true
visible (b ∷ w) = nat_lt 32 b also visible w

unfoldable pub is_word : ℕ → List ℕ → Bool
is_word m w = nat_le 1 (length w) also nat_le (length w) m also visible w

unfoldable pub book_of : List ℕ → List ℕ
book_of l = front space l

unfoldable pub checkpoint_of : List ℕ → List ℕ
checkpoint_of l = rest space l

unfoldable pub is_comment : List ℕ → Bool
is_comment l = nat_eq (slice_index l 0) hash

-- A line with no space names an empty CHECKPOINT, and one with a second space has it in its CHECKPOINT: neither
-- is a plant's.
unfoldable pub is_plant : List ℕ → Bool
is_plant l =
    is_word longest_book_path (book_of l)
    also is_word longest_checkpoint_path (checkpoint_of l)
    also not (is_comment l)

unfoldable pub index_from : ℕ → ℕ → List ℕ → List (List ℕ) → ℕ
index_from j n w [] = n
index_from j n w (x ∷ ws) = choose (same x w) j (index_from (suc j) n w ws)

unfoldable pub named_before : List (List ℕ) → ℕ → List ℕ → Bool
named_before cs i l = nat_lt (index_from 0 i (checkpoint_of l) cs) i

unfoldable pub verdict_from : List (List ℕ) → ℕ → List (List ℕ) → List ℕ → Result ℕ Fault
verdict_from cs i [] [] = Ok i
verdict_from cs i [] (x ∷ u) = choose (nat_lt i most_plants) (Err (Wrong i)) (Err Many)
verdict_from cs i (l ∷ ls) u =
    choose (nat_lt i most_plants)
    (choose (is_plant l)
    (choose (named_before cs i l) (Err (Again i)) (verdict_from cs (suc i) ls u))
    (Err (Wrong i)))
    (Err Many)

unfoldable pub verdict_on : List ℕ → Result ℕ Fault
verdict_on t = verdict_from (map checkpoint_of (lines_of t)) 0 (lines_of t) (split t).unended
