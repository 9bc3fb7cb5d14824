-- The code's row of tests is the definition's. Assumes nothing.
use Rattle.std.proofs.Common.{leb, rules}
use Rattle.choice.proofs.TestsLaws.{both}
use Rattle.rules.specs.AtOnce.{form_right}
use Rattle.rules.proofs.sorting.is_form_right.Statement.{statement}
use Rattle.rules.proofs.sorting.is_form_right.Tie as tie

returns : tie.Need-returns
unfolding form_right
returns c =
    let flags = c.flags-flags.ensures in
    let month = c.period-month.ensures in
    let amount = c.amount-amount.ensures in
    let months = both (both (λ i. leb (flags i) 7) (λ i. leb 1 (month i))) (λ i. leb (month i) 12) in
    both (both months (λ i. leb (amount i) 100000000)) c.is_fuel_record_blank.ensures

pub is_form_right_spec : {M : Type 1} → statement M
is_form_right_spec =
    tie.close
    (tie.spec (λ c κs. search rules) (λ c κs. search rules) (λ c κs. search rules) (λ c κs. search rules)
    returns)
