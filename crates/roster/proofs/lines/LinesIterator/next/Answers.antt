-- Where a newline stands, the first line is what stands before it. Assumes nothing.
use Rattle.std.proofs.Common.{ap, arith, length, rules}
use Rattle.roster.proofs.LinesLaws.{lines_none, lines_first}
use Rattle.roster.proofs.lines.LinesIterator.next.Goals as goal

pub returns-in_err-line-clause-steps : goal.returns-in_err-line-clause-steps
returns-in_err-line-clause-steps c =
    let none = lines_none c.args.self.now.0.now c.in_err-line.ensures.cut in
    rw c.from_residual.ensures (none, none)

pub returns-clause-steps : goal.returns-clause-steps
returns-clause-steps c =
    let cut = c.in_ok-line.ensures.cut in
    lines_first c.args.self.now.0.now cut.0 cut.1 cut.2

pub returns-clause-goes : goal.returns-clause-goes
returns-clause-goes c =
    let cut = c.in_ok-line.ensures.cut in
    let fewer = ap length (lines_first c.args.self.now.0.now cut.0 cut.1 cut.2) in
    record { on = λ _. (search rules, search rules, omega (arith, fewer)); keeps = search rules; rests = search rules }
