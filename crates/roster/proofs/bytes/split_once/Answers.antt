-- The place that the search finds is where the run is cut. Assumes nothing.
use Rattle.std.proofs.Common.{rules, eqb, sym, ◌∙◌}
use borrow.Author.Tests.{tests}
use Rattle.std.proofs.lemmas.Iterator.{YieldsList-from_slice}
use Rattle.std.proofs.lemmas.Iterator.Search.{position_from_yields_List}
use Rattle.roster.proofs.BytesLaws.{cut_found, cut_none}
use Rattle.roster.proofs.bytes.split_once.Goals as goal

pub returns-in_err-n : goal.returns-in_err-n
returns-in_err-n c =
    let found = position_from_yields_List (λ x. eqb x c.args.b) _ _ c.position.result c.position.ensures.ran
    (YieldsList-from_slice c.args.bytes.now c.iter.ensures.rest) (λ x b q k. search (rules, tests)) in
    record { cut = rw c.from_residual.ensures (cut_none _ _ (sym found ∙ c.in_err-n.was)) }

pub returns : goal.returns
returns c =
    let found = position_from_yields_List (λ x. eqb x c.args.b) _ _ c.position.result c.position.ensures.ran
    (YieldsList-from_slice c.args.bytes.now c.iter.ensures.rest) (λ x b q k. search (rules, tests)) in
    record { cut = cut_found _ _ _ (sym found ∙ c.in_ok-n.was) }
