-- The fields are those of the entry, and the ledger is told by its number. Assumes nothing.
use borrow.Author.Rules.{rules}
use Rattle.text.specs.Frame.{told_of}
use Rattle.text.proofs.frame.tell_counted.Statement.{statement}
use Rattle.text.proofs.frame.tell_counted.Tie as tie

number-ledger-requires : tie.Need-number_ledger-ledger-requires
number-ledger-requires c κs = search rules

cast-t7 : tie.Need-overflow_cast-result
cast-t7 c = search rules

returns : tie.Need-returns
unfolding told_of
returns c =
    let told = c in
    let e = told.args.e in
    λ i. record {
      number = 0;
      reason = 0;
      method = e.method;
      ledger = told.number_ledger-ledger.ensures i;
      co2 = e.co2;
      ch4 = e.ch4;
      n2o = e.n2o;
    }

pub tell_counted_spec : {M : Type 1} → statement M
tell_counted_spec = tie.close (tie.spec number-ledger-requires cast-t7 returns)
