use Rattle.std.proofs.Common.{◌^◌, ◌<◌, arith}
use Rattle.rules.proofs.BytesLaws.{word_none, word_next, word_room}
use Rattle.rules.proofs.bytes.read_bytes.Goals as goal
use Rattle.rules.proofs.bytes.read_bytes.Goals.{In-loop-i}

-- There is room for a byte more.
room : (c : In-loop-i) → c.loop-i.v < 256 ^ 7
room c =
    let a = c.args in
    let loop = c.loop-i in
    word_room a.s.now a.at a.n loop.i c.loop-i-test.true loop.auto.i loop.v c.requires.few loop.invariant.below

pub loop-i-init : goal.loop-i-init
loop-i-init c = let none = word_none c.args.s.now c.args.at c.args.n in record { value = none.0; below = none.1 }

pub overflow_mul-v : goal.overflow_mul-v
overflow_mul-v c = omega (arith, room (goal.at.overflow_mul-v c).In-loop-i)

pub overflow_add-v : goal.overflow_add-v
overflow_add-v c = omega (arith, room (goal.at.overflow_add-v c).In-loop-i)

pub loop-i-preserved : goal.loop-i-preserved
loop-i-preserved c =
    let a = c.args in
    let loop = c.loop-i in
    let byte-is = c.widen.ensures.same in
    let next = word_next a.s.now a.at a.n loop.i c.loop-i-test.true loop.auto.i loop.v c.widen.result
    loop.invariant.value loop.invariant.below byte-is.0 byte-is.1 in
    record { value = next.0; below = next.1 }
