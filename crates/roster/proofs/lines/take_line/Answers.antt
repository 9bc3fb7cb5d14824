-- The line that the lines give at i is line i. Assumes nothing.
use Rattle.std.proofs.Common.{refl}
use Rattle.std.proofs.lemmas.Iterator.Consumers.{YieldsList-from_first, nth_from_yields_List}
use Rattle.roster.specs.Lines.{lines_of}
use Rattle.roster.proofs.LinesLaws.{line_at-nth}
use Rattle.roster.proofs.lines.take_line.Goals as goal

pub returns : goal.returns
returns c =
    let t = c.args.text.now in
    record {
      line =
          rw c.unwrap_or.ensures
          (line_at-nth c.args.i t c.nth.result _ refl
          (nth_from_yields_List c.nth.result c.nth.new.self c.args.i c.nth.ensures.ran
          (YieldsList-from_first (λ x. x.now) (λ s. lines_of s.0.now) (lines_of t) refl)));
    }
