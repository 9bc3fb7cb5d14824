-- A book, opened or refused. RULES, "The book" and "Numbers".
--
--     longest_book               the most bytes that a book has
--     most_lines                 the most unit lines, and the most fuel lines
--     length_ok s                the length is right (else 20)
--     starts_ok u f e            the two starts are right, the trailer starting at byte e
--     trailer_ok t e             t is a right trailer that starts at byte e (else 21)
--     molar_volume_ok v          a fuel line may tell the molar volume v
--     unit_ok u, fuel_ok f       a line that breaks no rule, its number aside
--     lines_ok ok before ls      no line of ls breaks a rule, `before` being the number before them
--     lines_sound ok s           at most `most_lines` lines in s, and none breaks a rule (else 22, 23)
--     trailer s                  the last line of a book
--     head_of s                  what the trailer says, with n and the book's length
--     unit_lines h s             the unit lines of a book with the head h
--     fuel_lines h s             its fuel lines
--     opened s                   the answer to a book: the smallest number that applies, or its head
--     fault_number x             the number of a fault
--     answer r                   the number, or the head, that r stands for
--     SetApart s s'              s and s' differ at most in the set of warming values that they name
--
-- Laws: proofs/BookLaws.antt, proofs/ApartLaws.antt. Definitions only.
use Rattle.std.specs.Prelude.{◌≡◌, ℕ, ◌+◌, ◌-◌, ◌/◌, ◌%◌, Bool, true, not, nat_le, List, [], ◌∷◌, length, ◌==◌, ◌≢◌, nat_eq, nat_lt, Result, Ok, Err}
use Rattle.choice.specs.Tests.{◌also◌, ◌either◌, choose}
use Rattle.rules.specs.declared.book.Head.{Head}
use Rattle.rules.specs.declared.book.Fault.{Fault}
use Rattle.rules.specs.declared.book.Fault.TheVariants.{Length, Trailer, Units, Fuels}
use Rattle.rules.specs.Bytes.{byte, part, lines_in}
use Rattle.rules.specs.Fields.{signed, version, trailer_gap, unit_start, fuel_start, year, year_gap, warming_set_at, warming_set, trailer_blank, number, unit_flags, monitored, dry, unit_gap, rating, unit_blank, fuel_kind, fuel_class, default_heat, co2_factor, ch4_factor, n2o_factor, molar_volume, fuel_blank}

abbrev pub longest_book : ℕ
longest_book = 4194304

abbrev pub most_lines : ℕ
most_lines = 64

unfoldable pub length_ok : List ℕ → Bool
length_ok s = nat_le 32 (length s) also nat_le (length s) longest_book also nat_eq (length s % 32) 0

unfoldable pub starts_ok : ℕ → ℕ → ℕ → Bool
starts_ok u f e = nat_eq (u % 32) 0 also nat_eq (f % 32) 0 also nat_le u f also nat_le f e

unfoldable pub trailer_ok : List ℕ → ℕ → Bool
trailer_ok t e =
    signed t
    also nat_eq (version t) 1
    also trailer_gap t
    also starts_ok (unit_start t) (fuel_start t) e
    also nat_le 2000 (year t)
    also nat_le (year t) 2099
    also year_gap t
    also nat_le (warming_set t) 1
    also trailer_blank t

-- Without a monitor nothing measures dry gas.
unfoldable pub unit_head_ok : List ℕ → Bool
unit_head_ok u =
    nat_le (unit_flags u) 3
    also (monitored u either not (dry u))
    also unit_gap u
    also nat_le 1 (rating u)
    also nat_le (rating u) 100000

unfoldable pub unit_ok : List ℕ → Bool
unit_ok u = unit_head_ok u also unit_blank u

-- Class 1 goes only with kind 3, class 2 with kind 2, class 3 with kind 1.
unfoldable pub kind_class_ok : ℕ → ℕ → Bool
kind_class_ok kind class =
    nat_le 1 kind
    also nat_le kind 3
    also (class == 0
    either (nat_eq class 1 also nat_eq kind 3)
    either (nat_eq class 2 also nat_eq kind 2)
    either (nat_eq class 3 also nat_eq kind 1))

-- A fuel of any kind may have one.
unfoldable pub molar_volume_ok : ℕ → Bool
molar_volume_ok v = nat_eq v 0 either (nat_le 20000 v also nat_le v 27000)

unfoldable pub fuel_head_ok : List ℕ → Bool
fuel_head_ok f =
    kind_class_ok (fuel_kind f) (fuel_class f)
    also nat_le (default_heat f) 200000
    also nat_le 1 (co2_factor f)
    also nat_le (co2_factor f) 200000
    also nat_le (ch4_factor f) 200000
    also nat_le (n2o_factor f) 200000
    also molar_volume_ok (molar_volume f)

unfoldable pub fuel_ok : List ℕ → Bool
fuel_ok f = fuel_head_ok f also fuel_blank f

-- The numbers rise strictly, and the first is above 0.
unfoldable pub lines_ok : (List ℕ → Bool) → ℕ → List (List ℕ) → Bool
lines_ok ok before [] = true
lines_ok ok before (l ∷ ls) = nat_lt before (number l) also ok l also lines_ok ok (number l) ls

unfoldable pub lines_sound : (List ℕ → Bool) → List ℕ → Bool
lines_sound ok s = nat_le (length s / 32) most_lines also lines_ok ok 0 (lines_in s)

abbrev pub trailer : List ℕ → List ℕ
trailer s = part (length s - 32) (length s) s

unfoldable pub head_of : List ℕ → Head
head_of s = record {
  n = unit_start (trailer s) / 32;
  units = unit_start (trailer s);
  fuels = fuel_start (trailer s);
  year = year (trailer s);
  length = length s;
  warming = warming_set (trailer s);
}

abbrev pub unit_lines : Head → List ℕ → List ℕ
unit_lines h s = part h.units h.fuels s

abbrev pub fuel_lines : Head → List ℕ → List ℕ
fuel_lines h s = part h.fuels (h.length - 32) s

pub data Answer : Type 0 where
  refused : ℕ → Answer
  accepted : Head → Answer

unfoldable pub opened : List ℕ → Answer
opened s =
    choose (length_ok s)
    (choose (trailer_ok (trailer s) (length s - 32))
    (choose (lines_sound unit_ok (unit_lines (head_of s) s))
    (choose (lines_sound fuel_ok (fuel_lines (head_of s) s))
    (accepted (head_of s))
    (refused 23))
    (refused 22))
    (refused 21))
    (refused 20)

abbrev pub fault_number : Fault → ℕ
fault_number Length = 20
fault_number Trailer = 21
fault_number Units = 22
fault_number Fuels = 23

unfoldable pub answer : Result Head Fault → Answer
answer (Err x) = refused (fault_number x)
answer (Ok h) = accepted h

pub record SetApart (s s' : List ℕ) : Type 0 where
  pub lengths : length s ≡ length s'
  pub others : (i : ℕ) → (i ≢ length s - 32 + warming_set_at) → byte s i ≡ byte s' i
