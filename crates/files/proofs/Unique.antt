-- Two results that a public contract allows are equal, and so are the bytes that it leaves in the
-- buffer lent to it, where no call of the operating system decides them. `Post` is the contract's own
-- reading. Assumes nothing.
use mathlib.Core.Path.{◌≡◌, sym, ◌∙◌}
use Rattle.files.proofs.KeptLaws.{placed_inj}
use Rattle.files.proofs.take_front.Reads as take-front
use Rattle.files.proofs.put.Reads as put
use Rattle.files.proofs.ended.misuse.Reads as misuse
use Rattle.files.proofs.kept.start_anew.Reads as start-anew
use Rattle.files.proofs.kept.wake.Reads as wake

pub take-front_unique : (κs : _) (a : _) (r s : _) (x y : _)
    → take-front.Post κs a r x → take-front.Post κs a s y → r.now ≡ s.now
take-front_unique κs a r s x y p q = p ∙ sym q

pub put_unique : (κs : _) (a : _) (r s : _) (x y : _) → put.Post κs a r x → put.Post κs a s y → r ≡ s
put_unique κs a r s x y p q = p.1.0 ∙ sym q.1.0

pub put_bytes_unique : (κs : _) (a : _) (r s : _) (x y : _)
    → put.Post κs a r x → put.Post κs a s y → x.0.now ≡ y.0.now
put_bytes_unique κs a r s x y p q = p.1.1 ∙ sym q.1.1

-- Of any runtime: its type and the laws, members and code that it has are named first.
pub misuse_unique : (t l m d : _) (κs : _) (a : _) (r s : _) (x y : _)
    → misuse.Post t l m d κs a r x → misuse.Post t l m d κs a s y → r ≡ s
misuse_unique t l m d κs a r s x y p q = p ∙ sym q

pub start_anew_unique : (κs : _) (a : _) (r s : _) (x y : _)
    → start-anew.Post κs a r x → start-anew.Post κs a s y → r ≡ s
start_anew_unique κs a r s x y p q = placed_inj r s (p.0 ∙ sym q.0)

pub start_anew_bytes_unique : (κs : _) (a : _) (r s : _) (x y : _)
    → start-anew.Post κs a r x → start-anew.Post κs a s y → x.1.0.now ≡ y.1.0.now
start_anew_bytes_unique κs a r s x y p q = p.1 ∙ sym q.1

-- Whether the save came off, the operating system decides. The runtime comes with its files and folders.
pub wake_bytes_unique : (t u v l m n fs fs' rd rd' wr wr' sk sk' op op' dr dr' rs rs' co co' f' d' : _)
    (κs : _) (a : _) (r s : _) (x y : _)
    → wake.Post t u v l m n fs fs' rd rd' wr wr' sk sk' op op' dr dr' rs rs' co co' f' d' κs a r x
    → wake.Post t u v l m n fs fs' rd rd' wr wr' sk sk' op op' dr dr' rs rs' co co' f' d' κs a s y
    → x.1.1.1.1.1.1.1.0.now ≡ y.1.1.1.1.1.1.1.0.now
wake_bytes_unique t u v l m n fs fs' rd rd' wr wr' sk sk' op op' dr dr' rs rs' co co' f' d' κs a r s x y p q =
    p.1 ∙ sym q.1
