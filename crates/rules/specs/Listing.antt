-- What a scan of unit or fuel lines looks at, and on what lines a search by halving is right. These serve
-- the code; RULES and the definitions of a record don't need them.
--
--     line_ok k l         a line of the sort k breaks no rule, its number aside
--     head_ok k l         the named bytes of a line of the sort k break no rule, its number aside
--     blank_from k        the byte from which no field of such a line is named
--     number_at k s       the number of line k of s
--     Rising s            there are at most `most_lines` lines in s, and their numbers rise strictly
--
-- Laws: proofs/ListingLaws.antt. Definitions only.
use Rattle.std.specs.Prelude.{ℕ, ◌/◌, ◌<◌, ◌≤◌, Bool, List, length}
use Rattle.rules.specs.declared.listing.Sort.{Sort}
use Rattle.rules.specs.declared.listing.Sort.TheVariants.{Unit, Fuel}
use Rattle.rules.specs.Bytes.{line}
use Rattle.rules.specs.Fields.{number}
use Rattle.rules.specs.Book.{most_lines, unit_head_ok, unit_ok, fuel_head_ok, fuel_ok}

abbrev pub line_ok : Sort → List ℕ → Bool
line_ok Unit l = unit_ok l
line_ok Fuel l = fuel_ok l

abbrev pub head_ok : Sort → List ℕ → Bool
head_ok Unit l = unit_head_ok l
head_ok Fuel l = fuel_head_ok l

abbrev pub blank_from : Sort → ℕ
blank_from Unit = 8
blank_from Fuel = 24

abbrev pub number_at : ℕ → List ℕ → ℕ
number_at k s = number (line k s)

pub record Rising (s : List ℕ) : Type 0 where
  pub few : length s / 32 ≤ most_lines
  pub rise : (j k : ℕ) → j < k → k < length s / 32 → number_at j s < number_at k s
