-- Whole tonnes leave the rest as it is.
use Rattle.std.proofs.Common.{◌+◌, ◌*◌, arith}
use Rattle.mass.specs.declared.ledger.Ledger.{Ledger}
use Rattle.mass.proofs.LedgerLaws.{total_parts}
use Rattle.job.proofs.ledgers.raise.Goals as goal

pub returns : goal.returns
returns c =
    let a = c.args in
    let g : Ledger = record { tonnes = a.g.tonnes + a.tonnes * a.times; rest = a.g.rest } in
    record {
      raised = (
        omega (arith, total_parts g, total_parts a.g),
        record { canonical = c.requires.light.0; tonnes_le = c.requires.light.1 },
      );
    }
