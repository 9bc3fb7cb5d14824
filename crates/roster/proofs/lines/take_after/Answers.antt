-- One line is passed a turn, and where none is ended nothing stands after it. Assumes nothing.
use Rattle.std.proofs.Common.{arith, ◌-◌}
use Rattle.roster.proofs.LinesLaws.{after_next, after_end, after_unended}
use Rattle.roster.proofs.lines.take_after.Goals as goal

pub returns-in_default : goal.returns-in_default
returns-in_default c = record {
  after =
      after_unended (c.args.i - c.loop.counter) c.loop.left.now c.loop.invariant (omega arith) c.in_default.ensures.cut;
}

pub loop-preserved : goal.loop-preserved
loop-preserved c =
    after_next (c.args.i - c.loop.counter) c.loop.left.now c.loop.invariant _ (omega arith) c.in-Some.ensures.cut.2

pub returns : goal.returns
returns c = record {
  after = after_end (c.args.i - c.loop.counter) c.loop.left.now c.loop.invariant (omega arith);
}
