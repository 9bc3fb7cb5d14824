-- The first record set aside is told and a later one is not, by the same test as in the definition.
use Rattle.std.proofs.Common.{◌+◌, sym, ◌∙◌, ap}
use Rattle.job.specs.declared.counts.Aside.{Aside}
use Rattle.job.specs.State.{counted}
use Rattle.job.specs.Words.{counts_at}
use Rattle.job.proofs.StateLaws.{counted-first, counted_later}
use Rattle.job.proofs.leg.set_aside.Goals as goal
use Rattle.job.proofs.leg.set_aside.Goals.{then-aside-eq0, else-aside-eq0}

pub returns : goal.returns
unfolding counted
returns c =
    let a = c.args in
    let now = counts_at a.place a.aside.now in
    record {
      counted = elim c.if-aside-eq0.branch [
        | then-aside-eq0 w ↦
            let told = counted-first now a.reason w.if-aside-eq0.true in
            let number = w.number_reason-aside.ensures.number ∙ sym told.1 in
            ap (λ (b : Aside). counts_at (a.place + 1) (record { count = b.count + 1; index = b.index; reason = b.reason })) w.aside-is
            ∙ (λ i. record { done = a.place + 1; aside = a.aside.now.count + 1; index = sym told.0 i; reason = number i })
        | else-aside-eq0 w ↦
            let told = counted_later now a.reason w.if-aside-eq0.false in
            ap (λ (b : Aside). counts_at (a.place + 1) (record { count = b.count + 1; index = b.index; reason = b.reason })) w.aside-is
            ∙ (λ i. record { done = a.place + 1; aside = a.aside.now.count + 1; index = sym told.0 i; reason = sym told.1 i })
      ];
    }
