-- Two results that a public contract allows are equal, and so are the queues after them. `Post` is the contract's
-- own reading. Assumes nothing.
use mathlib.Core.Path.{◌≡◌, sym, ◌∙◌}
use Rattle.queue.proofs.slots.Queue.new.Reads as new
use Rattle.queue.proofs.slots.Queue.add.Reads as add
use Rattle.queue.proofs.slots.Queue.remove.Reads as remove
use Rattle.queue.proofs.slots.Queue.turn.Reads as turn
use Rattle.queue.proofs.reply.number_refusal.Reads as number-refusal

pub new_unique : (κs : _) (a : _) (r s : _) (x y : _) → new.Post κs a r x → new.Post κs a s y → r ≡ s
new_unique κs a r s x y p q = p ∙ sym q

pub add_unique : (κs : _) (a : _) (r s : _) (x y : _) → add.Post κs a r x → add.Post κs a s y → r ≡ s
add_unique κs a r s x y p q = p.0 ∙ sym q.0

pub add_queue_unique : (κs : _) (a : _) (r s : _) (x y : _) → add.Post κs a r x → add.Post κs a s y
    → x.0.now ≡ y.0.now
add_queue_unique κs a r s x y p q = p.1 ∙ sym q.1

pub remove_unique : (κs : _) (a : _) (r s : _) (x y : _) → remove.Post κs a r x → remove.Post κs a s y → r ≡ s
remove_unique κs a r s x y p q = p.0 ∙ sym q.0

pub remove_queue_unique : (κs : _) (a : _) (r s : _) (x y : _) → remove.Post κs a r x → remove.Post κs a s y
    → x.0.now ≡ y.0.now
remove_queue_unique κs a r s x y p q = p.1 ∙ sym q.1

pub turn_unique : (κs : _) (a : _) (r s : _) (x y : _) → turn.Post κs a r x → turn.Post κs a s y → r ≡ s
turn_unique κs a r s x y p q = p.0 ∙ sym q.0

pub turn_queue_unique : (κs : _) (a : _) (r s : _) (x y : _) → turn.Post κs a r x → turn.Post κs a s y
    → x.0.now ≡ y.0.now
turn_queue_unique κs a r s x y p q = p.1 ∙ sym q.1

pub number_refusal_unique : (κs : _) (a : _) (r s : _) (x y : _)
    → number-refusal.Post κs a r x → number-refusal.Post κs a s y → r ≡ s
number_refusal_unique κs a r s x y p q = p ∙ sym q
