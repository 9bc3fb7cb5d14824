-- The lines before line i are looked through. Assumes nothing.
use Rattle.std.proofs.Common.{rules, arith, ap, ◌∙◌, ℕ, List, map}
use borrow.Author.Tests.{tests}
use lib.Dec.{ltb}
use Rattle.std.proofs.lemmas.Iterator.{YieldsList-from_take}
use Rattle.std.proofs.lemmas.Iterator.Consumers.{YieldsList-from_first}
use Rattle.std.proofs.lemmas.Iterator.Search.{any_from_yields_List}
use Rattle.roster.specs.Bytes.{same}
use Rattle.roster.specs.Lines.{lines_of}
use Rattle.roster.specs.Plants.{checkpoint_of, index_from, named_before}
use Rattle.roster.proofs.BytesLaws.{same-pointwise}
use Rattle.roster.proofs.PlantsLaws.{list_any-index_from}
use Rattle.roster.proofs.plants.is_named_before.Goals as goal

pub returns : goal.returns
unfolding named_before
returns c =
    let ls = lines_of c.args.list.now in
    let w = c.take_checkpoint-checkpoint.result.now in
    let i = c.args.i in
    record {
      named =
          any_from_yields_List (λ l. same (checkpoint_of l) w) c.any.new.self _ c.any.result c.any.ensures.ran
          (YieldsList-from_take i
          (YieldsList-from_first (λ x. x.now) (λ s. lines_of s.0.now) ls (ap (λ s. lines_of s.0.now) c.take.ensures.source))
          c.take.ensures.count)
          (λ x b q k. search (rules, tests, same-pointwise))
          ∙ list_any-index_from checkpoint_of w 0 i i ls (omega arith)
          ∙ ap (λ (w : List ℕ). ltb (index_from 0 i w (map checkpoint_of ls)) i) c.take_checkpoint-checkpoint.ensures.checkpoint;
    }
