-- What becomes of a record, and why it is set aside. RULES, "Reasons".
--
--     reason_number k   the number of a reason
--     Outcome           what the record gives to the ledgers, or the reason for which it is set aside
--
-- Laws: proofs/OutcomeLaws.antt. Definitions only.
use Rattle.std.specs.Prelude.{ℕ, Result}
use Rattle.rules.specs.declared.entry.Entry.{Entry}
use Rattle.rules.specs.declared.record.Reason.{Reason}
use Rattle.rules.specs.declared.record.Reason.TheVariants.{WrongForm, NoUnit, NoFuel, OutOfRange, NoMonitor, NoMethod, NoHeat, Repeated}

abbrev pub reason_number : Reason → ℕ
reason_number WrongForm = 1
reason_number NoUnit = 2
reason_number NoFuel = 3
reason_number OutOfRange = 4
reason_number NoMonitor = 5
reason_number NoMethod = 6
reason_number NoHeat = 7
reason_number Repeated = 8

abbrev pub Outcome : Type 0
Outcome = Result Entry Reason
