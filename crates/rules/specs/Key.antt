-- Kind, unit and period of a record as one number, so that two records are compared at once. The bytes
-- between them are masked out of the record's first eight. And what some of a book's lines tell of a record.
--
--     key l        the number of kind, unit and period
--     Start l r    r is the number of the first eight bytes of l, told by its fields
--     Keyed l r    r is the key of l, whose fields don't run into each other
--     stands_in l j n s
--                  a record of l's kind, unit and period is among the n lines of s from line j on
--
-- Laws: proofs/KeyLaws.antt. Definitions only.
use Rattle.std.specs.Prelude.{◌≡◌, ℕ, ◌+◌, ◌*◌, ◌<◌, Bool, List, drop}
use Rattle.rules.specs.Bytes.{lines}
use Rattle.rules.specs.Fields.{kind, flags, unit_number, fuel_number, period}
use Rattle.rules.specs.Repeat.{stands_among}

unfoldable pub key : List ℕ → ℕ
key l = kind l + 65536 * unit_number l + 281474976710656 * period l

pub record Start (l : List ℕ) (r : ℕ) : Type 0 where
  pub kind_lt : kind l < 256
  pub flags_lt : flags l < 256
  pub unit_lt : unit_number l < 65536
  pub fuel_lt : fuel_number l < 65536
  pub period_lt : period l < 65536
  pub start : r ≡ kind l + 256 * flags l + 65536 * unit_number l + 4294967296 * fuel_number l + 281474976710656 * period l

pub record Keyed (l : List ℕ) (r : ℕ) : Type 0 where
  pub kind_lt : kind l < 256
  pub unit_lt : unit_number l < 65536
  pub key_is : r ≡ key l

abbrev pub stands_in : List ℕ → ℕ → ℕ → List ℕ → Bool
stands_in l j n s = stands_among l (lines n (drop (32 * j) s))
