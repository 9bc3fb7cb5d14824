-- Which hours and months stand in records already: a row of words for each unit line, with a bit for each
-- hour of a year, and then for each month. A record's outcome doesn't hang on it, so that neither RULES
-- nor the definitions of a record need it.
--
--     row_words             how many words a row has, of 64 bits each
--     with_mark t j c       t with bit c of its row j set
--     last_period k         the last hour or month that a record of kind k can have; 0 for other kinds
--     has_bit k w           the period w of a record of kind k has a bit
--     bit_of k w            which one
--     with_mark_at r c t    t with bit c set in the row of the unit found at r
--     noted l units t       t with the unit and period of the record l marked
--     noted_all ls units t  t with those of each line of ls marked
--     is_table units t      t has a row for each unit line; no words at all are no table
--     noting l units t      the same as `noted`, if t is a table
--     Known ls units t      t, if it is a table, is that of the lines ls
--     noting_by a s i t     the same as `noting_at`, of bytes s that were answered by a
--     noting_at s i t       t once record i of s is noted; t itself where there is no such record
--     KnownAt s i t         if s is a book and has i records, t is known of these
--
-- Laws: proofs/TableLaws.antt. Definitions only.
use Rattle.std.specs.Prelude.{◌≡◌, ℕ, ◌+◌, ◌-◌, ◌*◌, ◌/◌, ◌%◌, ◌^◌, ◌≤◌, Bool, true, List, [], ◌∷◌, length, replicate, ◌==◌, bit_or, nat_le, nat_lt, slice_index, slice_set, Option, Some, None}
use Rattle.choice.specs.Tests.{◌also◌, choose}
use Rattle.rules.specs.declared.book.Head.{Head}
use Rattle.rules.specs.Bytes.{line, lines, lines_in}
use Rattle.rules.specs.Fields.{kind, unit_number, period}
use Rattle.rules.specs.Book.{unit_lines, Answer, refused, accepted, opened}
use Rattle.rules.specs.Place.{place}

abbrev pub row_words : ℕ
row_words = 138

unfoldable pub with_mark : List ℕ → ℕ → ℕ → List ℕ
with_mark t j c = slice_set t (row_words * j + c / 64) (bit_or (slice_index t (row_words * j + c / 64)) (2 ^ (c % 64)))

unfoldable pub last_period : ℕ → ℕ
last_period k = choose (k == 2) 8784 (choose (k == 4) 12 0)

unfoldable pub has_bit : ℕ → ℕ → Bool
has_bit k w = nat_le 1 w also nat_le w (last_period k)

-- A month's bit comes after those of the hours.
unfoldable pub bit_of : ℕ → ℕ → ℕ
bit_of k w = choose (k == 4) (8784 + w - 1) (w - 1)

unfoldable pub with_mark_at : Option ℕ → ℕ → List ℕ → List ℕ
with_mark_at (Some j) c t = with_mark t j c
with_mark_at None c t = t

unfoldable pub noted : List ℕ → List ℕ → List ℕ → List ℕ
noted l units t =
    choose (has_bit (kind l) (period l))
    (with_mark_at (place (unit_number l) 0 (lines_in units)) (bit_of (kind l) (period l)) t)
    t

unfoldable pub noted_all : List (List ℕ) → List ℕ → List ℕ → List ℕ
noted_all [] units t = t
noted_all (l ∷ ls) units t = noted_all ls units (noted l units t)

unfoldable pub is_table : List ℕ → List ℕ → Bool
is_table units t = nat_le 1 (length t) also nat_le (row_words * (length units / 32)) (length t)

unfoldable pub noting : List ℕ → List ℕ → List ℕ → List ℕ
noting l units t = choose (is_table units t) (noted l units t) t

pub record Known (ls : List (List ℕ)) (units t : List ℕ) : Type 0 where
  pub known : is_table units t ≡ true → t ≡ noted_all ls units (replicate (length t) 0)

-- ---- of any bytes, book or not
unfoldable pub noting_by : Answer → List ℕ → ℕ → List ℕ → List ℕ
noting_by (refused n) s i t = t
noting_by (accepted h) s i t = choose (nat_lt i h.n) (noting (line i s) (unit_lines h s) t) t

unfoldable pub noting_at : List ℕ → ℕ → List ℕ → List ℕ
noting_at s i t = noting_by (opened s) s i t

pub record KnownAt (s : List ℕ) (i : ℕ) (t : List ℕ) : Type 0 where
  pub of_book : (h : Head) → opened s ≡ accepted h → i ≤ h.n → Known (lines i s) (unit_lines h s) t
