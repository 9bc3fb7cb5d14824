-- The slots before the one that is found are taken. Assumes nothing.
use Rattle.std.proofs.Common.{rules, ◌≡◌, true, false, arith}
use borrow.Author.Tests.{tests}
use Rattle.std.proofs.lemmas.Iterator.{YieldsList-from_slice, IsFirst-from_position}
use Rattle.queue.specs.Slots.{is_free}
use Rattle.queue.proofs.BooksLaws.{lowest_free_found}
use Rattle.queue.proofs.slots.Queue.find_free.Goals as goal

pub returns : goal.returns
returns c =
    let q = c.args.self.now in
    record {
      lowest =
          lowest_free_found q c.position.result (omega arith)
          (IsFirst-from_position c.position.new.self _ c.position.result (λ s. is_free s ≡ true) (λ s. is_free s ≡ false)
          c.position.ensures.ran
          (YieldsList-from_slice q.slots c.iter.ensures.rest)
          (λ x q k. search (rules, tests))
          (λ x q k. search (rules, tests)));
    }
