-- As many lines are gone through as the book has, and each is one of its fuel lines.
use Rattle.std.proofs.Common.{◌<◌, ◌/◌, length, sym, subst, arith}
use Rattle.rules.specs.Book.{fuel_ok, fuel_lines}
use Rattle.rules.proofs.BookLaws.{Accepted, accepted_facts}
use Rattle.rules.proofs.LinesLaws.{lines_sound-each, rising_lines_sound}
use Rattle.job.specs.Shares.{Modest}
use Rattle.job.proofs.GatheredLaws.{Ready}
use Rattle.job.proofs.GatheringLaws.{gathering_none, gathering_next, gathered-all, modest_factors_of, lines-accepted}
use Rattle.job.proofs.shares.gather.Goals as goal
use Rattle.job.proofs.shares.gather.Goals.{Start, In-loop-k, After-read_factors}

known : (c : Start) → Accepted c.args.book.now c.args.h
known c = accepted_facts _ _ c.requires.opened

pub overflow_sub-n : goal.overflow_sub-n
overflow_sub-n c = let k = known (goal.at.overflow_sub-n c).Start in omega arith

pub overflow_sub-n-2 : goal.overflow_sub-n-2
overflow_sub-n-2 c = (known (goal.at.overflow_sub-n-2 c).Start).fuels_le

pub loop-k-init : goal.loop-k-init
loop-k-init c = gathering_none _ _ c.requires.blank

there : (c : In-loop-k) → c.loop-k.k < length (fuel_lines c.args.h c.args.book.now) / 32
there c = omega (arith, lines-accepted (accepted_facts _ _ c.requires.opened))

pub read_factors-requires-clause-there : goal.read_factors-requires-clause-there
read_factors-requires-clause-there c = there (goal.at.read_factors-requires-clause-there c).In-loop-k

ready : (c : After-read_factors) → Ready c.read_factors.result c.loop-k.k c.args.d.now c.loop-k.sums
ready c =
    let facts = accepted_facts _ _ c.requires.opened in
    let lines = rising_lines_sound fuel_ok _ facts.fuels_sound in
    let there : c.loop-k.k < length (fuel_lines c.args.h c.args.book.now) / 32 = omega (arith, lines-accepted facts) in
    let right = lines_sound-each fuel_ok _ _ facts.fuels_sound there in (
      (omega (arith, lines.few), subst Modest (sym c.read_factors.ensures.factors) (modest_factors_of _ right)),
      (c.requires.held, c.loop-k.invariant.few),
    )

pub gather_line-requires-clause-there : goal.gather_line-requires-clause-there
gather_line-requires-clause-there c = (ready (goal.at.gather_line-requires-clause-there c).After-read_factors).0

pub gather_line-requires-clause-room : goal.gather_line-requires-clause-room
gather_line-requires-clause-room c = c.loop-k.invariant.few

pub loop-k-preserved : goal.loop-k-preserved
loop-k-preserved c =
    gathering_next _ _ _ c.loop-k.k c.read_factors.ensures.factors (ready (goal.at.loop-k-preserved c).After-read_factors)
    c.gather_line.ensures.gathered c.loop-k.invariant

pub returns : goal.returns
returns c =
    let facts = known (goal.at.returns c).Start in
    let lines = rising_lines_sound fuel_ok _ facts.fuels_sound in
    let all = lines-accepted facts in
    record { gathered = gathered-all _ _ _ c.loop-k.k (omega arith) (omega (arith, lines.few)) c.loop-k.invariant }
