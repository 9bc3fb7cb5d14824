-- The table is blank at first, and each step that leaves a record notes it there.
use Rattle.std.proofs.Common.{ℕ, ◌∙◌}
use lib.ListN.{length-replicate}
use Rattle.rules.proofs.ReaderLaws.{left_from-place_after-lt, known_at_blank, known_at_place_after}
use Rattle.lines.proofs.print_lines.Goals as goal

pub loop-table-init : goal.loop-table-init
loop-table-init g c = (known_at_blank _ 8832, length-replicate {A = ℕ} 8832 0)

pub loop-table-smaller : goal.loop-table-smaller
loop-table-smaller g c =
    let step = c.take_step-step.ensures in
    left_from-place_after-lt _ _ step.after step.left c.if-step-eq0.false

pub loop-table-preserved : goal.loop-table-preserved
loop-table-preserved g c =
    let at = c.loop-table in
    let step = c.take_step-step in (
      known_at_place_after _ at.at at.table step.ensures.after step.ensures.noted at.invariant.0,
      step.auto.table ∙ at.invariant.1,
    )
