-- The book that docs/FORMAT.md prints, "One book": it is accepted, and its record is that of P1. A book
-- of a trailer alone is accepted too, and one that names the second set of warming values. Assumes nothing.
use Rattle.std.proofs.Common.{◌≡◌, ℕ, false, List, [], ◌∷◌, set, sym, refl, ◌∙◌, ap₂, lit≤, get_or-set_other}
use Rattle.choice.proofs.TestsLaws.{choose-true, worked-out}
use Rattle.rules.specs.declared.book.Head.{Head}
use Rattle.rules.specs.Bytes.{word, bytes_of, line, lines, lines_in}
use Rattle.rules.specs.Book.{length_ok, starts_ok, trailer_ok, unit_head_ok, unit_ok, kind_class_ok, molar_volume_ok, fuel_head_ok, fuel_ok, lines_ok, lines_sound, head_of, accepted, opened, SetApart}
use Rattle.rules.specs.Repeat.{repeatable, repeated}
use Rattle.rules.specs.Record.{check, unless_repeated, outcome_after, outcome_at}
use Rattle.rules.proofs.ApartLaws.{naming, opened-apart}
use Rattle.rules.proofs.Cases.{counted, worked_sums}

-- ---- one record, one unit, one fuel, the trailer: 16 bytes to a line, as they are printed
unfoldable pub sample_book : List ℕ
sample_book =
    0x01 ∷ 0x00 ∷ 0x01 ∷ 0x00 ∷ 0x01 ∷ 0x00 ∷ 0x06 ∷ 0x00 ∷ 0xe8 ∷ 0x03 ∷ 0x00 ∷ 0x00 ∷ 0x00 ∷ 0x00 ∷ 0x00 ∷ 0x00
    ∷ 0x00 ∷ 0x00 ∷ 0x00 ∷ 0x00 ∷ 0x00 ∷ 0x00 ∷ 0x00 ∷ 0x00 ∷ 0x00 ∷ 0x00 ∷ 0x00 ∷ 0x00 ∷ 0x00 ∷ 0x00 ∷ 0x00 ∷ 0x00
    ∷ 0x01 ∷ 0x00 ∷ 0x00 ∷ 0x00 ∷ 0xc4 ∷ 0x09 ∷ 0x00 ∷ 0x00 ∷ 0x00 ∷ 0x00 ∷ 0x00 ∷ 0x00 ∷ 0x00 ∷ 0x00 ∷ 0x00 ∷ 0x00
    ∷ 0x00 ∷ 0x00 ∷ 0x00 ∷ 0x00 ∷ 0x00 ∷ 0x00 ∷ 0x00 ∷ 0x00 ∷ 0x00 ∷ 0x00 ∷ 0x00 ∷ 0x00 ∷ 0x00 ∷ 0x00 ∷ 0x00 ∷ 0x00
    ∷ 0x01 ∷ 0x00 ∷ 0x03 ∷ 0x01 ∷ 0x70 ∷ 0x94 ∷ 0x00 ∷ 0x00 ∷ 0x50 ∷ 0xc3 ∷ 0x00 ∷ 0x00 ∷ 0x84 ∷ 0x03 ∷ 0x00 ∷ 0x00
    ∷ 0x5a ∷ 0x00 ∷ 0x00 ∷ 0x00 ∷ 0x00 ∷ 0x00 ∷ 0x00 ∷ 0x00 ∷ 0x00 ∷ 0x00 ∷ 0x00 ∷ 0x00 ∷ 0x00 ∷ 0x00 ∷ 0x00 ∷ 0x00
    ∷ 0x53 ∷ 0x54 ∷ 0x43 ∷ 0x42 ∷ 0x01 ∷ 0x00 ∷ 0x00 ∷ 0x00 ∷ 0x20 ∷ 0x00 ∷ 0x00 ∷ 0x00 ∷ 0x40 ∷ 0x00 ∷ 0x00 ∷ 0x00
    ∷ 0xda ∷ 0x07 ∷ 0x00 ∷ 0x00 ∷ 0x00 ∷ 0x00 ∷ 0x00 ∷ 0x00 ∷ 0x00 ∷ 0x00 ∷ 0x00 ∷ 0x00 ∷ 0x00 ∷ 0x00 ∷ 0x00 ∷ 0x00
    ∷ []

abbrev pub sample_head : Head
sample_head = record { n = 1; units = 32; fuels = 64; year = 2010; length = 128; warming = 0 }

pub opened_sample_book : opened sample_book ≡ accepted sample_head
unfolding
    sample_book opened length_ok head_of trailer_ok starts_ok lines_sound lines_in lines lines_ok word
    unit_ok unit_head_ok fuel_ok fuel_head_ok kind_class_ok molar_volume_ok
opened_sample_book = simp worked-out

-- A fuel record repeats nothing.
first_sample_book : repeated (line 0 sample_book) (lines 0 sample_book) ≡ false
unfolding sample_book repeated repeatable
first_sample_book = simp worked-out

pub outcome_at_sample_book : outcome_at sample_head sample_book 0 ≡ counted 1 1900000000000 34200000000 3420000000
unfolding sample_book outcome_at outcome_after unless_repeated check lines_in lines bytes_of
outcome_at_sample_book = ap₂ unless_repeated first_sample_book worked_sums.p1 ∙ choose-true _ _

-- ---- the same, with the second set of warming values in byte 20 of its trailer
abbrev pub second_book : List ℕ
second_book = set sample_book 116 1

pub sample_book_apart : SetApart sample_book second_book
unfolding sample_book
sample_book_apart = record {
  lengths = refl;
  others = λ i other. sym (get_or-set_other sample_book 116 i 1 0 other);
}

pub opened_second_book : opened second_book ≡ accepted (naming 1 sample_head)
unfolding sample_book
opened_second_book = opened-apart sample_book_apart opened_sample_book (lit≤ tt)

-- ---- a trailer alone, of the same year
unfoldable pub empty_book : List ℕ
empty_book =
    0x53 ∷ 0x54 ∷ 0x43 ∷ 0x42 ∷ 0x01 ∷ 0x00 ∷ 0x00 ∷ 0x00 ∷ 0x00 ∷ 0x00 ∷ 0x00 ∷ 0x00 ∷ 0x00 ∷ 0x00 ∷ 0x00 ∷ 0x00
    ∷ 0xda ∷ 0x07 ∷ 0x00 ∷ 0x00 ∷ 0x00 ∷ 0x00 ∷ 0x00 ∷ 0x00 ∷ 0x00 ∷ 0x00 ∷ 0x00 ∷ 0x00 ∷ 0x00 ∷ 0x00 ∷ 0x00 ∷ 0x00
    ∷ []

abbrev pub empty_head : Head
empty_head = record { n = 0; units = 0; fuels = 0; year = 2010; length = 32; warming = 0 }

pub opened_empty_book : opened empty_book ≡ accepted empty_head
unfolding
    empty_book opened length_ok head_of trailer_ok starts_ok lines_sound lines_in lines lines_ok word
opened_empty_book = simp worked-out
