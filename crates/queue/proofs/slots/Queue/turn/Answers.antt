-- The budget and the round decide the case. Assumes nothing.
use Rattle.std.proofs.Common.{arith}
use Rattle.queue.proofs.RoundLaws.{turned-zero, turned_none, turned_found, found-lt}
use Rattle.queue.proofs.slots.Queue.turn.Goals as goal

pub returns-then-budget-eq0-clause-answer : goal.returns-then-budget-eq0-clause-answer
returns-then-budget-eq0-clause-answer c = (turned-zero c.args.self.now c.args.budget c.if-budget-eq0.true).0

pub returns-then-budget-eq0-clause-queue : goal.returns-then-budget-eq0-clause-queue
returns-then-budget-eq0-clause-queue c = (turned-zero c.args.self.now c.args.budget c.if-budget-eq0.true).1

pub returns-in_default-clause-answer : goal.returns-in_default-clause-answer
returns-in_default-clause-answer c =
    (turned_none c.args.self.now c.args.budget c.if-budget-eq0.false c.in_default.ensures.next).0

pub returns-in_default-clause-queue : goal.returns-in_default-clause-queue
returns-in_default-clause-queue c =
    (turned_none c.args.self.now c.args.budget c.if-budget-eq0.false c.in_default.ensures.next).1

pub offset_bounds-self-slot : goal.offset_bounds-self-slot
offset_bounds-self-slot c =
    let there = found-lt c.args.self.now c.args.budget c.in-Some.slot c.if-budget-eq0.false c.in-Some.ensures.next in
    omega arith

pub bounds-self-slot : goal.bounds-self-slot
bounds-self-slot c =
    found-lt c.args.self.now c.args.budget c.in-Some.slot c.if-budget-eq0.false c.in-Some.ensures.next

pub overflow_cast-self : goal.overflow_cast-self
overflow_cast-self c =
    let there = found-lt c.args.self.now c.args.budget c.in-Some.slot c.if-budget-eq0.false c.in-Some.ensures.next in
    omega arith

pub returns-clause-answer : goal.returns-clause-answer
returns-clause-answer c =
    (turned_found c.args.self.now c.args.budget c.in-Some.slot c.if-budget-eq0.false c.in-Some.ensures.next
    c.count_left-left.result c.min-moved.result c.count_left-left.ensures.left c.min-moved.ensures).0

pub returns-clause-queue : goal.returns-clause-queue
returns-clause-queue c =
    (turned_found c.args.self.now c.args.budget c.in-Some.slot c.if-budget-eq0.false c.in-Some.ensures.next
    c.count_left-left.result c.min-moved.result c.count_left-left.ensures.left c.min-moved.ensures).1
