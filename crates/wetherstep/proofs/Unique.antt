-- Two words that a call's contract allows are equal, and so is what it leaves in the buffer lent to it.
-- `Post` is the contract's own reading. Assumes nothing.
use mathlib.Core.Path.{◌≡◌, sym, ◌∙◌}
use Rattle.wetherstep.proofs.face.wetherstep_fresh.Reads as fresh
use Rattle.wetherstep.proofs.face.wetherstep_wake.Reads as wake
use Rattle.wetherstep.proofs.face.wetherstep_report.Reads as report
use Rattle.wetherstep.proofs.face.wetherstep_left.Reads as left

pub fresh_unique : (κs : _) (a : _) (r s : _) (x y : _) → fresh.Post κs a r x → fresh.Post κs a s y → r ≡ s
fresh_unique κs a r s x y p q = p.0 ∙ sym q.0

pub fresh_bytes_unique : (κs : _) (a : _) (r s : _) (x y : _)
    → fresh.Post κs a r x → fresh.Post κs a s y → x.1.0.now ≡ y.1.0.now
fresh_bytes_unique κs a r s x y p q = p.1 ∙ sym q.1

pub wake_unique : (κs : _) (a : _) (r s : _) (x y : _) → wake.Post κs a r x → wake.Post κs a s y → r ≡ s
wake_unique κs a r s x y p q = p.0 ∙ sym q.0

pub wake_bytes_unique : (κs : _) (a : _) (r s : _) (x y : _)
    → wake.Post κs a r x → wake.Post κs a s y → x.1.1.1.0.now ≡ y.1.1.1.0.now
wake_bytes_unique κs a r s x y p q = p.1 ∙ sym q.1

pub report_unique : (κs : _) (a : _) (r s : _) (x y : _)
    → report.Post κs a r x → report.Post κs a s y → r ≡ s
report_unique κs a r s x y p q = p.0 ∙ sym q.0

pub report_figures_unique : (κs : _) (a : _) (r s : _) (x y : _)
    → report.Post κs a r x → report.Post κs a s y → x.1.1.0.now ≡ y.1.1.0.now
report_figures_unique κs a r s x y p q = p.1 ∙ sym q.1

pub left_unique : (κs : _) (a : _) (r s : _) (x y : _) → left.Post κs a r x → left.Post κs a s y → r ≡ s
left_unique κs a r s x y p q = p ∙ sym q
