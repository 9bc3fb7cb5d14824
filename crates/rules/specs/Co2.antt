-- What becomes of a record that gives no CH4 and no N2O. This serves the code; what is promised of a record
-- doesn't need it.
--
--     Co2Alone o   what counts gives CO2 alone, to the fossil ledger
--
-- Laws: proofs/Co2Laws.antt. Definitions only.
use Rattle.std.specs.Prelude.{◌≡◌, Ok, Err}
use Rattle.rules.specs.Outcome.{Outcome}
use Rattle.rules.specs.Entry.{co2_alone}

abbrev pub Co2Alone : Outcome → Type 0
Co2Alone (Err k) = Unit {0}
Co2Alone (Ok e) = e ≡ co2_alone e.co2
