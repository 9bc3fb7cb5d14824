-- A slot that isn't free is one of the 16. Assumes nothing.
use Rattle.std.proofs.Common.{arith}
use Rattle.queue.proofs.BooksLaws.{removed_found, removed_none}
use Rattle.queue.proofs.slots.Queue.remove.Goals as goal

pub returns-then-is_none-clause-answer : goal.returns-then-is_none-clause-answer
returns-then-is_none-clause-answer c = (removed_none c.args.self.now c.args.i c.look.ensures.held c.if-is_none.ensures).0

pub returns-then-is_none-clause-queue : goal.returns-then-is_none-clause-queue
returns-then-is_none-clause-queue c = (removed_none c.args.self.now c.args.i c.look.ensures.held c.if-is_none.ensures).1

pub offset_bounds-self-i : goal.offset_bounds-self-i
offset_bounds-self-i c =
    let there = (removed_found c.args.self.now c.args.i c.look.ensures.held c.if-is_none.ensures).0 in
    omega arith

pub bounds-self-i : goal.bounds-self-i
bounds-self-i c = (removed_found c.args.self.now c.args.i c.look.ensures.held c.if-is_none.ensures).0

pub returns-clause-answer : goal.returns-clause-answer
returns-clause-answer c = (removed_found c.args.self.now c.args.i c.look.ensures.held c.if-is_none.ensures).1

pub returns-clause-queue : goal.returns-clause-queue
returns-clause-queue c = (removed_found c.args.self.now c.args.i c.look.ensures.held c.if-is_none.ensures).2
