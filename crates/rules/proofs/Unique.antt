-- Two results that a public contract allows are equal. `Post` is the contract's own reading. Assumes nothing.
use Rattle.std.proofs.Common.{◌≡◌, sym, ap, ◌∙◌}
use Rattle.rules.specs.Reader.{left_from}
use Rattle.rules.proofs.BookLaws.{answer_inj}
use Rattle.rules.proofs.ReaderLaws.{sight_inj}
use Rattle.rules.proofs.bytes.read_word.Reads as read_word
use Rattle.rules.proofs.bytes.are_zero.Reads as are-zero
use Rattle.rules.proofs.book.open.Reads as book-open
use Rattle.rules.proofs.book.number_fault.Reads as number-fault
use Rattle.rules.proofs.hints.note_units.Reads as note-units
use Rattle.rules.proofs.hints.note_fuels.Reads as note-fuels
use Rattle.rules.proofs.factors.read_factors.Reads as read-factors
use Rattle.rules.proofs.record.is_repeatable.Reads as is-repeatable
use Rattle.rules.proofs.record.find_kind.Reads as find-kind
use Rattle.rules.proofs.record.number_reason.Reads as number-reason
use Rattle.rules.proofs.record.judge.Reads as judge
use Rattle.rules.proofs.record.judge_next.Reads as judge-next
use Rattle.rules.proofs.table.does_serve.Reads as does-serve
use Rattle.rules.proofs.table.note_records.Reads as note-records
use Rattle.rules.proofs.reader.look.Reads as look
use Rattle.rules.proofs.reader.take_step.Reads as take_step
use Rattle.rules.proofs.reader.look_next.Reads as look-next
use Rattle.rules.proofs.reader.count_left.Reads as count_left
use Rattle.rules.proofs.reader.advance.Reads as advance

pub read_word_unique : (κs : _) (a : _) (r s : _) (x y : _) → read_word.Post κs a r x → read_word.Post κs a s y → r ≡ s
read_word_unique κs a r s x y p q = p.0 ∙ sym q.0

pub are_zero_unique : (κs : _) (a : _) (r s : _) (x y : _) → are-zero.Post κs a r x → are-zero.Post κs a s y → r ≡ s
are_zero_unique κs a r s x y p q = p ∙ sym q

pub open_unique : (κs : _) (a : _) (r s : _) (x y : _) → book-open.Post κs a r x → book-open.Post κs a s y → r ≡ s
open_unique κs a r s x y p q = answer_inj r s (p ∙ sym q)

pub number_fault_unique : (κs : _) (a : _) (r s : _) (x y : _)
    → number-fault.Post κs a r x → number-fault.Post κs a s y → r ≡ s
number_fault_unique κs a r s x y p q = p ∙ sym q

pub note_units_unique : (κs : _) (a : _) (r s : _) (x y : _)
    → note-units.Post κs a r x → note-units.Post κs a s y → x.1.1.0.now ≡ y.1.1.0.now
note_units_unique κs a r s x y p q = p ∙ sym q

pub note_fuels_unique : (κs : _) (a : _) (r s : _) (x y : _)
    → note-fuels.Post κs a r x → note-fuels.Post κs a s y → x.1.1.0.now ≡ y.1.1.0.now
note_fuels_unique κs a r s x y p q = p ∙ sym q

pub read_factors_unique : (κs : _) (a : _) (r s : _) (x y : _)
    → read-factors.Post κs a r x → read-factors.Post κs a s y → r ≡ s
read_factors_unique κs a r s x y p q = p ∙ sym q

pub is_repeatable_unique : (κs : _) (a : _) (r s : _) (x y : _)
    → is-repeatable.Post κs a r x → is-repeatable.Post κs a s y → r ≡ s
is_repeatable_unique κs a r s x y p q = p ∙ sym q

pub find_kind_unique : (κs : _) (a : _) (r s : _) (x y : _)
    → find-kind.Post κs a r x → find-kind.Post κs a s y → r ≡ s
find_kind_unique κs a r s x y p q = p ∙ sym q

pub number_reason_unique : (κs : _) (a : _) (r s : _) (x y : _)
    → number-reason.Post κs a r x → number-reason.Post κs a s y → r ≡ s
number_reason_unique κs a r s x y p q = p ∙ sym q

pub judge_unique : (κs : _) (a : _) (r s : _) (x y : _) → judge.Post κs a r x → judge.Post κs a s y → r ≡ s
judge_unique κs a r s x y p q = p ∙ sym q

pub judge_next_unique : (κs : _) (a : _) (r s : _) (x y : _)
    → judge-next.Post κs a r x → judge-next.Post κs a s y → r ≡ s
judge_next_unique κs a r s x y p q = p.0 ∙ sym q.0

pub judge_next_table_unique : (κs : _) (a : _) (r s : _) (x y : _)
    → judge-next.Post κs a r x → judge-next.Post κs a s y
    → x.1.1.1.1.1.0.now ≡ y.1.1.1.1.1.0.now
judge_next_table_unique κs a r s x y p q = p.1 ∙ sym q.1

pub does_serve_unique : (κs : _) (a : _) (r s : _) (x y : _)
    → does-serve.Post κs a r x → does-serve.Post κs a s y → r ≡ s
does_serve_unique κs a r s x y p q = p ∙ sym q

pub note_records_unique : (κs : _) (a : _) (r s : _) (x y : _)
    → note-records.Post κs a r x → note-records.Post κs a s y
    → x.1.1.1.1.0.now ≡ y.1.1.1.1.0.now
note_records_unique κs a r s x y p q = p ∙ sym q

pub look_unique : (κs : _) (a : _) (r s : _) (x y : _) → look.Post κs a r x → look.Post κs a s y → r ≡ s
look_unique κs a r s x y p q = sight_inj r s (p ∙ sym q)

pub take_step_unique : (κs : _) (a : _) (r s : _) (x y : _)
    → take_step.Post κs a r x → take_step.Post κs a s y → r ≡ s
take_step_unique κs a r s x y p q =
    let next : r.next ≡ s.next = p.1.1.0 ∙ sym q.1.1.0 in
    let seen : r.seen ≡ s.seen = sight_inj r.seen s.seen (p.0 ∙ sym q.0) in
    let kind : r.kind ≡ s.kind = p.1.0 ∙ sym q.1.0 in
    let left : r.left ≡ s.left = p.1.1.1.0 ∙ ap (left_from _) next ∙ sym q.1.1.1.0 in
    λ i. record { seen = seen i; kind = kind i; next = next i; left = left i }

pub take_step_table_unique : (κs : _) (a : _) (r s : _) (x y : _)
    → take_step.Post κs a r x → take_step.Post κs a s y → x.1.1.0.now ≡ y.1.1.0.now
take_step_table_unique κs a r s x y p q = p.1.1.1.1 ∙ sym q.1.1.1.1

pub look_next_unique : (κs : _) (a : _) (r s : _) (x y : _)
    → look-next.Post κs a r x → look-next.Post κs a s y → r ≡ s
look_next_unique κs a r s x y p q = sight_inj r s (p ∙ sym q)

pub count_left_unique : (κs : _) (a : _) (r s : _) (x y : _)
    → count_left.Post κs a r x → count_left.Post κs a s y → r ≡ s
count_left_unique κs a r s x y p q = p ∙ sym q

pub advance_unique : (κs : _) (a : _) (r s : _) (x y : _) → advance.Post κs a r x → advance.Post κs a s y → r ≡ s
advance_unique κs a r s x y p q = p ∙ sym q
