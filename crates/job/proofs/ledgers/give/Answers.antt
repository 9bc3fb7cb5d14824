-- An entry's CO2, CH4 and N2O are added one after the other, and each leaves room for the next.
use Rattle.std.proofs.Common.{ℕ, List, ◌≡◌, ap, ◌∙◌}
use native.Mathlib.Nat.{le_refl}
use Rattle.job.specs.State.{ch4, n2o}
use Rattle.job.specs.Words.{carries, added, co2_place, co2_kept}
use Rattle.job.proofs.WordsLaws.{room_ch4, room_n2o}
use Rattle.job.proofs.ledgers.give.Goals as goal
use Rattle.job.proofs.ledgers.give.Goals.{After-add, After-add-2}

-- What the words are after one addition, and after two.
once : (c : After-add) →
    let e = c.args.e in
    c.add.new.w ≡ added c.args.w.now (co2_place e.destination) (co2_kept e.destination e.co2.0)
once c =
    c.add.ensures.added ∙ (λ i. added c.args.w.now (c.find_place.ensures.place i) (c.keep.ensures.kept i))

twice : (c : After-add-2) →
    let e = c.args.e in
    c.add-2.new.w ≡ added (added c.args.w.now (co2_place e.destination) (co2_kept e.destination e.co2.0)) ch4 e.ch4.0
twice c =
    c.add-2.ensures.added
    ∙ ap (λ (w : List ℕ). added w ch4 c.args.e.ch4.0)
    (c.add.ensures.added ∙ (λ i. added c.args.w.now (c.find_place.ensures.place i) (c.keep.ensures.kept i)))

pub add-requires-2-clause-room : goal.add-requires-2-clause-room
add-requires-2-clause-room c =
    let p = c.requires in
    rw (once (goal.at.add-requires-2-clause-room c).After-add)
    ((room_ch4 c.args.w.now p.kept c.args.e p.bounded (le_refl carries)).1)

pub add-requires-3-clause-room : goal.add-requires-3-clause-room
add-requires-3-clause-room c =
    let p = c.requires in
    rw (twice (goal.at.add-requires-3-clause-room c).After-add-2)
    ((room_n2o c.args.w.now p.kept c.args.e p.bounded (le_refl carries)).1)

pub returns : goal.returns
returns c =
    record {
      given =
          c.add-3.ensures.added
          ∙ ap (λ (w : List ℕ). added w n2o c.args.e.n2o.0) (twice (goal.at.returns c).After-add-2);
    }
