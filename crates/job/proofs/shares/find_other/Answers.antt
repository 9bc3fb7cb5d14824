-- The heats of three ways fit together, and so do the amounts of the others times the default heat.
use Rattle.std.proofs.Common.{refl, arith}
use lib.Dec.{lit<}
use Rattle.job.specs.Shares.{other_in}
use Rattle.job.proofs.HeldLaws.{other_product, odd_le, even_le}
use Rattle.job.proofs.shares.find_other.Goals as goal

pub overflow_add-measured-3 : goal.overflow_add-measured-3
overflow_add-measured-3 c =
    let odd = odd_le c.args.d.now c.args.k c.requires.there.0 c.requires.held in
    omega (arith, odd 3 (lit< tt) refl, odd 5 (lit< tt) refl)

pub overflow_add-measured-5 : goal.overflow_add-measured-5
overflow_add-measured-5 c =
    let odd = odd_le c.args.d.now c.args.k c.requires.there.0 c.requires.held in
    omega (arith, odd 3 (lit< tt) refl, odd 5 (lit< tt) refl, odd 7 (lit< tt) refl)

pub overflow_add-result-3 : goal.overflow_add-result-3
overflow_add-result-3 c =
    let even = even_le c.args.d.now c.args.k c.requires.there.0 c.requires.held in
    omega (arith, even 2 (lit< tt) refl, even 4 (lit< tt) refl)

pub overflow_add-result-5 : goal.overflow_add-result-5
overflow_add-result-5 c =
    let even = even_le c.args.d.now c.args.k c.requires.there.0 c.requires.held in
    omega (arith, even 2 (lit< tt) refl, even 4 (lit< tt) refl, even 6 (lit< tt) refl)

pub overflow_mul-result : goal.overflow_mul-result
overflow_mul-result c =
    let a = c.args in
    let p = c.requires in
    omega (arith, other_product a.d.now a.k p.there.0 p.held a.heat p.there.1)

pub overflow_add-result-6 : goal.overflow_add-result-6
overflow_add-result-6 c =
    let a = c.args in
    let p = c.requires in
    let odd = odd_le a.d.now a.k p.there.0 p.held in
    omega (
      arith,
      other_product a.d.now a.k p.there.0 p.held a.heat p.there.1,
      odd 3 (lit< tt) refl,
      odd 5 (lit< tt) refl,
      odd 7 (lit< tt) refl,
    )

pub returns : goal.returns
unfolding other_in
returns c = record { other = refl }
