-- Two words that the contract allows are equal, and so is what it leaves in the buffer lent to it. `Post` is
-- the contract's own reading. Assumes nothing.
use mathlib.Core.Path.{◌≡◌, sym, ◌∙◌}
use Rattle.wetherstep_record.proofs.face.wetherstep_record.Reads as look

pub record_unique : (κs : _) (a : _) (r s : _) (x y : _) → look.Post κs a r x → look.Post κs a s y → r ≡ s
record_unique κs a r s x y p q = p.0 ∙ sym q.0

pub record_masses_unique : (κs : _) (a : _) (r s : _) (x y : _)
    → look.Post κs a r x → look.Post κs a s y → x.1.1.0.now ≡ y.1.1.0.now
record_masses_unique κs a r s x y p q = p.1 ∙ sym q.1
