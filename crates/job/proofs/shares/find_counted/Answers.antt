-- A default heat takes an amount to no more than a heat that was measured, and the sum fits.
use Rattle.std.proofs.Common.{refl, arith}
use lib.Dec.{lit<}
use Rattle.job.specs.Shares.{counted_in}
use Rattle.job.proofs.HeldLaws.{counted_product, odd_le}
use Rattle.job.proofs.shares.find_counted.Goals as goal

pub overflow_mul-result : goal.overflow_mul-result
overflow_mul-result c =
    let a = c.args in
    let p = c.requires in
    omega (arith, counted_product a.d.now a.k p.there.0 p.held a.heat p.there.1)

pub overflow_add-result-2 : goal.overflow_add-result-2
overflow_add-result-2 c =
    let a = c.args in
    let p = c.requires in
    omega (
      arith,
      counted_product a.d.now a.k p.there.0 p.held a.heat p.there.1,
      odd_le a.d.now a.k p.there.0 p.held 1 (lit< tt) refl,
    )

pub returns : goal.returns
unfolding counted_in
returns c = record { counted = refl }
