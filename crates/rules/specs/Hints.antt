-- Where the line with a number may stand, by the last ten bits of the number. A look-up holds it against the
-- line, so that neither RULES nor the definitions of a record need it.
--
--     hinted n s t     t with a hint of each of the first n lines of s: its place, by the last ten bits of its number
--     hints_in s t     t with those of all lines of s
--
-- Of lines whose numbers end alike the last has the hint. Where no number ends so, t is as it was.
-- Laws: proofs/HintsLaws.antt. Definitions only.
use Rattle.std.specs.Prelude.{ℕ, zero, suc, ◌/◌, ◌%◌, List, length, slice_set}
use Rattle.rules.specs.Bytes.{line}
use Rattle.rules.specs.Fields.{number}

unfoldable pub hinted : ℕ → List ℕ → List ℕ → List ℕ
hinted zero s t = t
hinted (suc n) s t = slice_set (hinted n s t) (number (line n s) % 1024) n

unfoldable pub hints_in : List ℕ → List ℕ → List ℕ
hints_in s t = hinted (length s / 32) s t
