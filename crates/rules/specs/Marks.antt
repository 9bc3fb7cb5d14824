-- What a table tells of a record. This serves the code; what is promised of a table doesn't need it.
--
--     bit_at v b            bit b of v
--     marked t j c          bit c of row j of t is set
--     marked_at r c t       bit c is set in the row of the unit found at r
--     was_noted l units t   the unit and period of the record l are marked in t
--     told l units t        t is a table, and they are
--
-- Laws: proofs/BitLaws.antt, proofs/NotedLaws.antt. Definitions only.
use Rattle.std.specs.Prelude.{ℕ, ◌+◌, ◌*◌, ◌/◌, ◌%◌, ◌^◌, Bool, false, List, ◌==◌, slice_index, Option, Some, None}
use Rattle.choice.specs.Tests.{◌also◌}
use Rattle.rules.specs.Bytes.{lines_in}
use Rattle.rules.specs.Fields.{kind, unit_number, period}
use Rattle.rules.specs.Place.{place}
use Rattle.rules.specs.Table.{row_words, has_bit, bit_of, is_table}

unfoldable pub bit_at : ℕ → ℕ → ℕ
bit_at v b = v / 2 ^ b % 2

unfoldable pub marked : List ℕ → ℕ → ℕ → Bool
marked t j c = bit_at (slice_index t (row_words * j + c / 64)) (c % 64) == 1

unfoldable pub marked_at : Option ℕ → ℕ → List ℕ → Bool
marked_at (Some j) c t = marked t j c
marked_at None c t = false

unfoldable pub was_noted : List ℕ → List ℕ → List ℕ → Bool
was_noted l units t =
    has_bit (kind l) (period l)
    also marked_at (place (unit_number l) 0 (lines_in units)) (bit_of (kind l) (period l)) t

unfoldable pub told : List ℕ → List ℕ → List ℕ → Bool
told l units t = is_table units t also was_noted l units t
