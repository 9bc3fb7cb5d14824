-- Each ledger is read from its place. Assumes nothing.
use borrow.Author.Rules.{rules}
use Rattle.job.specs.Words.{totals_in}
use Rattle.job.proofs.report.find_totals.Statement.{statement}
use Rattle.job.proofs.report.find_totals.Tie as tie

returns : tie.Need-returns
unfolding totals_in
returns c = λ i. record {
  fossil = c.read_ledger.ensures i;
  biomass = c.read_ledger-2.ensures i;
  ch4 = c.read_ledger-3.ensures i;
  n2o = c.read_ledger-4.ensures i;
}

pub find_totals_spec : {M : Type 1} → statement M
find_totals_spec =
    tie.close
    (tie.spec
    (λ c κs. search rules) (λ c κs. search rules) (λ c κs. search rules) (λ c κs. search rules) returns)
