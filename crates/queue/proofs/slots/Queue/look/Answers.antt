-- A slot of the array is read, and past it nothing is held. Assumes nothing.
use Rattle.std.proofs.Common.{arith, sym, length, ◌≡◌, ◌∙◌, None}
use Rattle.queue.proofs.SlotsLaws.{slot_at_within, slot_at_beyond}
use Rattle.queue.proofs.slots.Queue.look.Goals as goal

pub returns-in_err-get : goal.returns-in_err-get
returns-in_err-get c =
    let past = c.in_err-get.ensures.lookup.3 in
    record { held = rw c.from_residual.ensures (sym (slot_at_beyond c.args.self.now c.args.i past)) }

pub returns : goal.returns
returns c =
    let sixteen : length c.args.self.now.slots ≡ 16 = omega arith in
    let read = c.in_ok-get.ensures.lookup.3 in
    let within = read.0 in
    record { held = read.1 None ∙ sym (slot_at_within c.args.self.now c.args.i (omega arith)) }
