-- Two results that a public contract allows are equal. `Post` is the contract's own reading.
-- Assumes nothing.
use mathlib.Core.Path.{◌≡◌, sym, ◌∙◌}
use Rattle.roster.proofs.lines.take_line.Reads as take-line
use Rattle.roster.proofs.lines.take_after.Reads as take_after
use Rattle.roster.proofs.lines.take_through.Reads as take-through
use Rattle.roster.proofs.plants.judge.Reads as judge
use Rattle.roster.proofs.plants.take_book.Reads as take-book
use Rattle.roster.proofs.plants.take_checkpoint.Reads as take-checkpoint
use Rattle.roster.proofs.mistake.find.Reads as find-mistake
use Rattle.roster.proofs.place.find.Reads as find

pub take-line_unique : (κs : _) (a : _) (r s : _) (x y : _)
    → take-line.Post κs a r x → take-line.Post κs a s y → r.now ≡ s.now
take-line_unique κs a r s x y p q = p ∙ sym q

pub take-after_unique : (κs : _) (a : _) (r s : _) (x y : _)
    → take_after.Post κs a r x → take_after.Post κs a s y → r.now ≡ s.now
take-after_unique κs a r s x y p q = p ∙ sym q

pub take-through_unique : (κs : _) (a : _) (r s : _) (x y : _)
    → take-through.Post κs a r x → take-through.Post κs a s y → r.now ≡ s.now
take-through_unique κs a r s x y p q = p ∙ sym q

pub judge_unique : (κs : _) (a : _) (r s : _) (x y : _)
    → judge.Post κs a r x → judge.Post κs a s y → r ≡ s
judge_unique κs a r s x y p q = p ∙ sym q

pub take_book_unique : (κs : _) (a : _) (r s : _) (x y : _)
    → take-book.Post κs a r x → take-book.Post κs a s y → r.now ≡ s.now
take_book_unique κs a r s x y p q = p ∙ sym q

pub take_checkpoint_unique : (κs : _) (a : _) (r s : _) (x y : _)
    → take-checkpoint.Post κs a r x → take-checkpoint.Post κs a s y → r.now ≡ s.now
take_checkpoint_unique κs a r s x y p q = p ∙ sym q

pub find_mistake_unique : (κs : _) (a : _) (r s : _) (x y : _)
    → find-mistake.Post κs a r x → find-mistake.Post κs a s y → r ≡ s
find_mistake_unique κs a r s x y p q = p ∙ sym q

pub find_unique : (κs : _) (a : _) (r s : _) (x y : _)
    → find.Post κs a r x → find.Post κs a s y → r ≡ s
find_unique κs a r s x y p q = p ∙ sym q
