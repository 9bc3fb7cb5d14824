-- Every byte is tested as the definition tests it. Assumes nothing.
use Rattle.std.proofs.Common.{rules, ltb, ◌∙◌}
use borrow.Author.Tests.{tests}
use Rattle.std.proofs.lemmas.Iterator.{YieldsList-from_slice}
use Rattle.std.proofs.lemmas.Iterator.Search.{all_from_yields_List}
use Rattle.roster.proofs.PlantsLaws.{list_all-visible}
use Rattle.roster.proofs.plants.is_visible.Goals as goal

pub returns : goal.returns
returns c =
    let w = c.args.w.now in
    record {
      visible =
          all_from_yields_List (λ b. ltb 32 b) _ _ c.all.result c.all.ensures.ran
          (YieldsList-from_slice w c.iter.ensures.rest) (λ x b q k. search (rules, tests))
          ∙ list_all-visible w;
    }
