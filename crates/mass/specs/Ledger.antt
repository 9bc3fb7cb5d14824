-- What a ledger stands for, and what adding to it means. RULES, "Ledgers".
--
--     tonne             one tonne, in ng
--     tonnes_each       the most that one record gives to a ledger, in tonnes
--     records_foreseen  the records of the longest book foreseen
--     most_tonnes       the most that a ledger of such a book can hold, in tonnes
--     total g           the mass that g stands for, in ng
--     Canonical g       g's rest is below a tonne, so that equal totals are equal ledgers
--     Sound g           g is canonical and holds no more than `most_tonnes`
--     ledger_of v       the ledger that stands for v ng
--     added g v         g with v ng more
--
-- Laws: proofs/LedgerLaws.antt. Definitions only.
use Rattle.std.specs.Prelude.{ℕ, ◌+◌, ◌*◌, ◌/◌, ◌%◌, ◌<◌, ◌≤◌}
use Rattle.mass.specs.declared.ledger.Ledger.{Ledger}

abbrev pub tonne : ℕ
tonne = 1000000000000000

-- 10^8 units × 200,000 kJ × 200,000 mg/MJ.
abbrev pub tonnes_each : ℕ
tonnes_each = 4000000

-- 131,072 lines are 4 MiB.
abbrev pub records_foreseen : ℕ
records_foreseen = 131072

abbrev pub most_tonnes : ℕ
most_tonnes = tonnes_each * records_foreseen

unfoldable pub total : Ledger → ℕ
total g = g.tonnes * tonne + g.rest.0

abbrev pub Canonical : Ledger → Type 0
Canonical g = g.rest.0 < tonne

pub record Sound (g : Ledger) : Type 0 where
  pub canonical : Canonical g
  pub tonnes_le : g.tonnes ≤ most_tonnes

unfoldable pub ledger_of : ℕ → Ledger
ledger_of v = record { tonnes = v / tonne; rest = record { 0 = v % tonne } }

unfoldable pub added : Ledger → ℕ → Ledger
added g v = ledger_of (total g + v)
