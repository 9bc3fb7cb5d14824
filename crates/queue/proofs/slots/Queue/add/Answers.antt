-- The slot found decides the case. Assumes nothing.
use Rattle.queue.proofs.BooksLaws.{added_found, added_none}
use Rattle.queue.proofs.slots.Queue.add.Goals as goal

pub returns-in_default-clause-answer : goal.returns-in_default-clause-answer
returns-in_default-clause-answer c = (added_none c.args.self.now c.args.n c.in_default.ensures.lowest).0

pub returns-in_default-clause-queue : goal.returns-in_default-clause-queue
returns-in_default-clause-queue c = (added_none c.args.self.now c.args.n c.in_default.ensures.lowest).1

pub returns-clause-answer : goal.returns-clause-answer
returns-clause-answer c = (added_found c.args.self.now c.args.n c.in-Some.slot c.in-Some.ensures.lowest).0

pub returns-clause-queue : goal.returns-clause-queue
returns-clause-queue c = (added_found c.args.self.now c.args.n c.in-Some.slot c.in-Some.ensures.lowest).1
