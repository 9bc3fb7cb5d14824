-- The array of free slots is `empty_queue`'s as it stands. Assumes nothing.
use Rattle.std.proofs.Common.{refl}
use Rattle.queue.specs.Slots.{empty_queue}
use Rattle.queue.proofs.slots.Queue.new.Goals as goal

pub returns : goal.returns
unfolding empty_queue
returns c = record { empty = refl }
