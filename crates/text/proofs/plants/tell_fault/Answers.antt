-- The line fits on a blank page. Assumes nothing.
use Rattle.std.proofs.Common.{arith}
use Rattle.text.proofs.PageLaws.{extended-blank}
use Rattle.text.proofs.WordsLaws.{wider}
use Rattle.text.proofs.PlantsLaws.{fault_text-le}
use Rattle.text.proofs.plants.tell_fault.Goals as goal

pub returns : goal.returns
returns c = record {
  text =
      extended-blank _ c.take_blank.ensures.blank c.say_fault.ensures.said
      (wider (fault_text-le c.args.list.now c.args.verdict) (omega arith)).le;
}
