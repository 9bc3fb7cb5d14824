-- The places of the round before the one that is found have nothing to serve. Assumes nothing.
use Rattle.std.proofs.Common.{rules, arith, ◌≡◌, ◌+◌, ◌<◌, ◌%◌}
use borrow.Author.Tests.{tests}
use Rattle.std.proofs.lemmas.Iterator.{YieldsList-from_range, YieldsList-from_map, first_from_find}
use Rattle.queue.specs.Slots.{slot_at, left_in}
use Rattle.queue.proofs.RoundLaws.{passed_over_found}
use Rattle.queue.proofs.slots.Queue.find_next.Goals as goal

pub returns : goal.returns
returns c =
    let q = c.args.self.now in
    record {
      next =
          passed_over_found q c.find.result
          (first_from_find c.find.new.self _ c.find.result
          (λ i. 0 < left_in (slot_at q i)) (λ i. left_in (slot_at q i) ≡ 0)
          c.find.ensures.ran
          (YieldsList-from_map _ (λ i. i % 16) (YieldsList-from_range (q.last + 1) (q.last + 1 + 16) 16 c.map.ensures.source (omega arith)) c.map.ensures.closure (λ x r q k. search (rules, tests)))
          (λ x q k. search (rules, tests))
          (λ x q k. search (rules, tests)));
    }
