use Rattle.std.proofs.Common.{◌-◌, refl, ◌∙◌, rules, tests}
use Rattle.std.proofs.lemmas.Iterator.{YieldsList-from_range}
use Rattle.std.proofs.lemmas.Iterator.Search.{any_from_yields_List}
use Rattle.rules.specs.Key.{stands_in}
use Rattle.rules.proofs.KeyLaws.{stands_in-any}
use Rattle.rules.proofs.repeat.is_one_of.Goals as goal

pub returns : goal.returns
returns c =
    let a = c.args in
    record {
      one = λ l h.
          any_from_yields_List (λ j. stands_in l j 1 a.book.now) _ _ _ c.any.ensures.ran
          (YieldsList-from_range a.from a.to (a.to - a.from) refl refl) (λ x b q k. search (rules, tests))
          ∙ stands_in-any l a.from (a.to - a.from) a.book.now;
    }
