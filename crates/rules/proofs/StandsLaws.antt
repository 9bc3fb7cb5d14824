-- A number that an index finds is that of one line, which a look-up gives: the numbers rise, and no line has that of
-- an entry without one. So the other columns have what this line says. Assumes nothing.
use Rattle.std.proofs.Common.{◌≡◌, ℕ, ◌+◌, ◌*◌, ◌/◌, ◌<◌, Bool, true, List, length, get_or, sym, refl, ap, ◌∙◌, Some}
use Rattle.rules.specs.declared.book.Head.{Head}
use Rattle.rules.specs.declared.record.Reason.{Reason}
use Rattle.rules.specs.Outcome.{Outcome}
use Rattle.rules.specs.Bytes.{byte, line, lines_in}
use Rattle.rules.specs.Fields.{number, unit_number, fuel_number}
use Rattle.rules.specs.Book.{unit_ok, fuel_ok, lines_sound, unit_lines, fuel_lines, opened, accepted}
use Rattle.rules.specs.Record.{listed}
use Rattle.rules.specs.Place.{place}
use Rattle.rules.specs.Listing.{Rising}
use Rattle.rules.specs.Index.{Column, UnitsNoted, FuelsNoted}
use Rattle.rules.proofs.BytesLaws.{word-two-lt, byte-part-lt}
use Rattle.rules.proofs.LinesLaws.{lines_sound-each, rising_lines_sound}
use Rattle.rules.proofs.BookLaws.{accepted_facts}
use Rattle.rules.proofs.ListingLaws.{place_mid, listed_at}
use Rattle.rules.proofs.IndexLaws.{column_at, column_found}

-- ---- where a number stands
-- Line j of s has the number x, and no other line has.
pub record Stands (x j : ℕ) (s : List ℕ) : Type 0 where
  pub rising : Rising s
  pub there : j < length s / 32
  pub has : number (line j s) ≡ x

module _ {x j : ℕ} {s : List ℕ} (w : Stands x j s) where
  pub place-stands : place x 0 (lines_in s) ≡ Some j
  place-stands = sym (place_mid s x j x w.rising w.there (sym w.has) refl)

  pub listed-stands : (k : Reason) (rest : List ℕ → Outcome) → listed x (lines_in s) k rest ≡ rest (line j s)
  listed-stands k rest = (listed_at x k rest s (sym place-stands) refl refl).1

stands_found : {x j : ℕ} {s t : List ℕ} (ok : List ℕ → Bool) → lines_sound ok s ≡ true
    → Column number s 0 (length s / 32) t → j < 64 → get_or t j 0 ≡ x → x < 65536 → Stands x j s
stands_found {x} {j} {s} {t} ok sound numbers few has below =
    let found = column_found numbers few has below in
    record { rising = rising_lines_sound ok s sound; there = found.0; has = found.1 }

-- ---- the lines of a record
-- Record i of the book s is m, and the columns us have the number of its unit in place j.
pub record UnitFound (h : Head) (s : List ℕ) (i : ℕ) (m us : List ℕ) (j : ℕ) : Type 0 where
  pub book : opened s ≡ accepted h
  pub bytes : (b : ℕ) → byte s b < 256
  pub line_is : m ≡ line i s
  pub units : UnitsNoted (unit_lines h s) us
  pub few : j < 64
  pub has : get_or us j 0 ≡ unit_number m

module _ {h : Head} {s : List ℕ} {i : ℕ} {m us : List ℕ} {j : ℕ} (w : UnitFound h s i m us j) where
  line_bytes : (b : ℕ) → byte (line i s) b < 256
  line_bytes = byte-part-lt (32 * i) (32 * i + 32) s w.bytes

  pub unit_stands : Stands (unit_number (line i s)) j (unit_lines h s)
  unit_stands =
      stands_found unit_ok (accepted_facts s h w.book).units_sound w.units.numbers w.few
      (w.has ∙ ap unit_number w.line_is) (word-two-lt (line i s) 2 line_bytes)

  -- What the columns have of it.
  pub unit_entry : {v : List ℕ → ℕ} {o : ℕ} → Column v (unit_lines h s) o (length (unit_lines h s) / 32) us
      → get_or us (o + j) 0 ≡ v (line j (unit_lines h s))
  unit_entry c = column_at c w.few unit_stands.there

-- And the columns fs have that of its fuel in place k.
pub record Found (h : Head) (s : List ℕ) (i : ℕ) (m us fs : List ℕ) (j k : ℕ) : Type 0 where
  pub unit : UnitFound h s i m us j
  pub fuels : FuelsNoted (fuel_lines h s) fs
  pub few : k < 64
  pub has : get_or fs k 0 ≡ fuel_number m

module _ {h : Head} {s : List ℕ} {i : ℕ} {m us fs : List ℕ} {j k : ℕ} (w : Found h s i m us fs j k) where
  fuels_sound : lines_sound fuel_ok (fuel_lines h s) ≡ true
  fuels_sound = (accepted_facts s h w.unit.book).fuels_sound

  pub fuel-stands : Stands (fuel_number (line i s)) k (fuel_lines h s)
  fuel-stands =
      stands_found fuel_ok fuels_sound w.fuels.numbers w.few
      (w.has ∙ ap fuel_number w.unit.line_is) (word-two-lt (line i s) 4 (line_bytes w.unit))

  pub fuel-entry : {v : List ℕ → ℕ} {o : ℕ} → Column v (fuel_lines h s) o (length (fuel_lines h s) / 32) fs
      → get_or fs (o + k) 0 ≡ v (line k (fuel_lines h s))
  fuel-entry c = column_at c w.few fuel-stands.there

  pub fuel-sound : fuel_ok (line k (fuel_lines h s)) ≡ true
  fuel-sound = lines_sound-each fuel_ok (fuel_lines h s) k fuels_sound fuel-stands.there
