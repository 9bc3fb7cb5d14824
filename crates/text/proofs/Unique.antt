-- Two results that a public contract allows are equal. `Post` is the contract's own reading. Assumes
-- nothing.
use mathlib.Core.Path.{◌≡◌, sym, ◌∙◌}
use Rattle.text.proofs.report.tell_annual.Reads as tell-annual
use Rattle.text.proofs.report.refuse.Reads as refuse
use Rattle.text.proofs.refusal.is_told.Reads as is-told
use Rattle.text.proofs.progress.tell_progress.Reads as tell-progress
use Rattle.text.proofs.progress.tell_turn.Reads as tell-turn
use Rattle.text.proofs.progress.hint.Reads as hint
use Rattle.text.proofs.plants.tell_fault.Reads as tell-fault
use Rattle.text.proofs.lines.tell_record.Reads as tell-record
use Rattle.text.proofs.budget.read.Reads as budget-read
use Rattle.text.proofs.frame.read.Reads as frame-read
use Rattle.text.proofs.frame.answer_call.Reads as answer-call
use Rattle.text.proofs.frame.answer_report.Reads as answer-report
use Rattle.text.proofs.frame.answer_record.Reads as answer-record
use Rattle.text.proofs.frame.tell_broken.Reads as tell-broken

pub tell_annual_unique : (κs : _) (a : _) (r s : _) (x y : _)
    → tell-annual.Post κs a r x → tell-annual.Post κs a s y → r ≡ s
tell_annual_unique κs a r s x y p q = p ∙ sym q

pub refuse_unique : (κs : _) (a : _) (r s : _) (x y : _)
    → refuse.Post κs a r x → refuse.Post κs a s y → r ≡ s
refuse_unique κs a r s x y p q = p ∙ sym q

pub is_told_unique : (κs : _) (a : _) (r s : _) (x y : _)
    → is-told.Post κs a r x → is-told.Post κs a s y → r ≡ s
is_told_unique κs a r s x y p q = p ∙ sym q

pub tell_progress_unique : (κs : _) (a : _) (r s : _) (x y : _)
    → tell-progress.Post κs a r x → tell-progress.Post κs a s y → r ≡ s
tell_progress_unique κs a r s x y p q = p ∙ sym q

pub tell_turn_unique : (κs : _) (a : _) (r s : _) (x y : _)
    → tell-turn.Post κs a r x → tell-turn.Post κs a s y → r ≡ s
tell_turn_unique κs a r s x y p q = p ∙ sym q

pub hint_unique : (κs : _) (a : _) (r s : _) (x y : _) → hint.Post κs a r x → hint.Post κs a s y → r ≡ s
hint_unique κs a r s x y p q = p ∙ sym q

pub tell_fault_unique : (κs : _) (a : _) (r s : _) (x y : _)
    → tell-fault.Post κs a r x → tell-fault.Post κs a s y → r ≡ s
tell_fault_unique κs a r s x y p q = p ∙ sym q

pub tell_record_unique : (κs : _) (a : _) (r s : _) (x y : _)
    → tell-record.Post κs a r x → tell-record.Post κs a s y → r ≡ s
tell_record_unique κs a r s x y p q = p ∙ sym q

pub budget_read_unique : (κs : _) (a : _) (r s : _) (x y : _)
    → budget-read.Post κs a r x → budget-read.Post κs a s y → r ≡ s
budget_read_unique κs a r s x y p q = p ∙ sym q

pub frame_read_unique : (κs : _) (a : _) (r s : _) (x y : _)
    → frame-read.Post κs a r x → frame-read.Post κs a s y → r ≡ s
frame_read_unique κs a r s x y p q = p ∙ sym q

pub answer_call_unique : (κs : _) (a : _) (r s : _) (x y : _)
    → answer-call.Post κs a r x → answer-call.Post κs a s y → r ≡ s
answer_call_unique κs a r s x y p q = p ∙ sym q

pub answer_report_unique : (κs : _) (a : _) (r s : _) (x y : _)
    → answer-report.Post κs a r x → answer-report.Post κs a s y → r ≡ s
answer_report_unique κs a r s x y p q = p ∙ sym q

pub answer_record_unique : (κs : _) (a : _) (r s : _) (x y : _)
    → answer-record.Post κs a r x → answer-record.Post κs a s y → r ≡ s
answer_record_unique κs a r s x y p q = p ∙ sym q

pub tell_broken_unique : (κs : _) (a : _) (r s : _) (x y : _)
    → tell-broken.Post κs a r x → tell-broken.Post κs a s y → r ≡ s
tell_broken_unique κs a r s x y p q = p ∙ sym q
