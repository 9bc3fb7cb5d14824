-- Two results that a public contract allows are equal, and so are the bytes that it leaves in the
-- buffer lent to it. `Post` is the contract's own reading. Assumes nothing.
use mathlib.Core.Path.{◌≡◌, sym, ◌∙◌}
use Rattle.job.proofs.ReplyLaws.{started_inj, woken_inj, reported_inj, remaining_inj}
use Rattle.job.proofs.reply.number_refusal.Reads as number-refusal
use Rattle.job.proofs.wake.fresh.Reads as fresh
use Rattle.job.proofs.wake.wake.Reads as wake
use Rattle.job.proofs.report.report.Reads as report
use Rattle.job.proofs.report.count_left.Reads as count_left

pub number_refusal_unique : (κs : _) (a : _) (r s : _) (x y : _)
    → number-refusal.Post κs a r x → number-refusal.Post κs a s y → r ≡ s
number_refusal_unique κs a r s x y p q = p ∙ sym q

pub fresh_unique : (κs : _) (a : _) (r s : _) (x y : _) → fresh.Post κs a r x → fresh.Post κs a s y → r ≡ s
fresh_unique κs a r s x y p q = started_inj r s (p.0 ∙ sym q.0)

pub fresh_bytes_unique : (κs : _) (a : _) (r s : _) (x y : _)
    → fresh.Post κs a r x → fresh.Post κs a s y → x.1.0.now ≡ y.1.0.now
fresh_bytes_unique κs a r s x y p q = p.1 ∙ sym q.1

pub wake_unique : (κs : _) (a : _) (r s : _) (x y : _) → wake.Post κs a r x → wake.Post κs a s y → r ≡ s
wake_unique κs a r s x y p q = woken_inj r s (p.0 ∙ sym q.0)

pub wake_bytes_unique : (κs : _) (a : _) (r s : _) (x y : _)
    → wake.Post κs a r x → wake.Post κs a s y → x.1.1.1.0.now ≡ y.1.1.1.0.now
wake_bytes_unique κs a r s x y p q = p.1 ∙ sym q.1

pub report_unique : (κs : _) (a : _) (r s : _) (x y : _)
    → report.Post κs a r x → report.Post κs a s y → r ≡ s
report_unique κs a r s x y p q = reported_inj r s (p ∙ sym q)

pub count_left_unique : (κs : _) (a : _) (r s : _) (x y : _)
    → count_left.Post κs a r x → count_left.Post κs a s y → r ≡ s
count_left_unique κs a r s x y p q = remaining_inj r s (p ∙ sym q)
