-- A line of the kept text is looked for in the list, and where it isn't there the place stays. Assumes nothing.
use Rattle.std.proofs.Common.{rules, arith, refl, ap, ◌≡◌, ◌∙◌, position}
use Rattle.std.specs.Option.{unwrap_or}
use borrow.Author.Tests.{tests}
use Rattle.std.proofs.lemmas.Iterator.Consumers.{YieldsList-from_first}
use Rattle.std.proofs.lemmas.Iterator.Search.{position_from_yields_List}
use Rattle.roster.specs.Bytes.{same}
use Rattle.roster.specs.Lines.{lines_of}
use Rattle.roster.specs.Place.{placed}
use Rattle.roster.proofs.BytesLaws.{same-pointwise}
use Rattle.roster.proofs.LinesLaws.{length-lines_of}
use Rattle.roster.proofs.PlantsLaws.{unwrap_or-index_from}
use Rattle.roster.proofs.PlaceLaws.{place_next, place_end}
use Rattle.roster.proofs.place.find.Goals as goal

pub loop-line-init : goal.loop-line-init
unfolding placed
loop-line-init c = rw c.into_iter-line-iterator.ensures.into_iter_gives (search rules)

pub position-requires-clause-fits : goal.position-requires-clause-fits
position-requires-clause-fits c =
    let few = length-lines_of c.args.list.now in
    grind arith

pub loop-line-preserved : goal.loop-line-preserved
loop-line-preserved c =
    let ls = lines_of c.args.list.now in
    let line = c.in-Some.line.now in
    let found : c.position.result ≡ position (λ l. same l line) ls =
    position_from_yields_List (λ l. same l line) c.position.new.self _ c.position.result c.position.ensures.ran
    (YieldsList-from_first (λ x. x.now) (λ s. lines_of s.0.now) ls refl)
    (λ x b q k. search (rules, tests, same-pointwise)) in (
      search rules,
      search rules,
      place_next c.loop-line.place ls c.loop-line.invariant.2 c.in-Some.ensures.steps
          (c.unwrap_or-place.ensures
          ∙ ap (λ r. unwrap_or r c.loop-line.place) found
          ∙ unwrap_or-index_from c.loop-line.place line ls),
    )

pub returns : goal.returns
returns c = record { place = place_end _ _ c.loop-line.invariant.2 c.in-None.ensures.steps.0 }
