-- How large an outcome's numbers get. This serves the code; what a record gives is told without it.
--
--     Bounded o     the record is set aside for a reason from 1 to the last, or it has a method of the list and gives
--                   no more than one record can: 4,000,000 t of CO2 in µg, and as many ng of CH4 and of N2O
--
-- Laws: proofs/RecordLaws.antt. Definitions only.
use Rattle.std.specs.Prelude.{◌*◌, ◌/◌, ◌≤◌, Ok, Err}
use Rattle.mass.specs.Ledger.{tonne, tonnes_each}
use Rattle.rules.specs.Outcome.{reason_number, Outcome}
use Rattle.rules.specs.Record.{last_reason}

abbrev pub Bounded : Outcome → Type 0
Bounded (Err k) = (1 ≤ reason_number k) × (reason_number k ≤ last_reason)
Bounded (Ok e) =
    let most = tonnes_each * (tonne / 1000) in
    (e.method ≤ 4) × (e.co2.0 ≤ most) × (e.ch4.0 ≤ most) × (e.n2o.0 ≤ most)
