-- The ledger that is read stands for what the checkpoint says, and the next one is laid behind those before it.
use Rattle.std.proofs.Common.{ℕ, ◌+◌, ◌≡◌, ap, ◌∙◌, subst, arith, add-one}
use Rattle.mass.specs.declared.ledger.Ledger.{Ledger}
use Rattle.mass.specs.Ledger.{total, ledger_of}
use Rattle.mass.proofs.LedgerLaws.{total_parts}
use Rattle.job.specs.State.{ledgers}
use Rattle.job.specs.Checkpoint.{mass_in}
use Rattle.job.specs.Words.{mass_at, masses_on}
use Rattle.job.proofs.LaidLaws.{Laid, laid_none, laid_next}
use Rattle.job.proofs.checkpoint.write_ledgers.Goals as goal
use Rattle.job.proofs.checkpoint.write_ledgers.Goals.{After-read_ledger}

pub loop-k-init : goal.loop-k-init
loop-k-init c = laid_none _ _ c.requires.whole.2

total-read : (c : After-read_ledger) → total c.read_ledger.result ≡ mass_in c.args.from.now c.loop-k.k
total-read c = ap total c.read_ledger.ensures.ledger ∙ total_parts _

pub gather-g-requires-clause-light : goal.gather-g-requires-clause-light
gather-g-requires-clause-light c =
    let light = c.requires.light c.loop-k.k c.loop-k-test.true in
    let rest = ap (λ (g : Ledger). g.rest.0) c.read_ledger.ensures.ledger in
    (omega (arith, rest), omega (arith, total-read (goal.at.gather-g-requires-clause-light c).After-read_ledger), light.2)

pub loop-k-preserved : goal.loop-k-preserved
loop-k-preserved c =
    let a = c.args in
    let read = total-read (goal.at.loop-k-preserved c).After-read_ledger in
    let ledger = c.gather-g.ensures.gathered ∙ ap (λ (m : ℕ). ledger_of (m + mass_at a.w.now c.loop-k.k)) read in
    rw add-one (laid_next (λ i. mass_in a.from.now i + mass_at a.w.now i) c.loop-k.k c.loop-k.invariant
    c.find_ledger-at.ensures.place ledger c.put.ensures.put c.put-in-loop-k.ensures.put)

pub returns : goal.returns
unfolding masses_on
returns c =
    let all : c.loop-k.k ≡ ledgers = omega arith in
    record { written = (subst (Laid _ c.loop-k.out _) all c.loop-k.invariant).whole }
