-- How the code admits a checkpoint of a book that was opened. This serves the code; the definitions of
-- the calls don't need it.
--
--     admission h r     the number, or the head h, that the code's admission r stands for
--     report_for h c    the reply to a report of an opened book with the head h
--     left_for h c      the reply to a count of the records left of such a book
--
-- Laws: proofs/AdmissionLaws.antt, proofs/ReportLaws.antt. Definitions only.
use Rattle.std.specs.Prelude.{ℕ, ◌-◌, List, [], ◌∷◌, Result, Ok, Err}
use Rattle.rules.specs.declared.book.Head.{Head}
use Rattle.rules.specs.Book.{Answer, refused, accepted}
use Rattle.job.specs.declared.reply.Refusal.{Refusal}
use Rattle.job.specs.Checkpoint.{done_in, decode}
use Rattle.job.specs.Reply.{Reply, reply, refusal_number}
use Rattle.job.specs.Wake.{if_open, admitted_for}
use Rattle.job.specs.Report.{reply_at}

unfoldable pub admission : Head → Result (Unit {0}) Refusal → Answer
admission h (Err x) = refused (refusal_number x)
admission h (Ok _) = accepted h

unfoldable pub report_for : Head → List ℕ → Reply
report_for h c = if_open (admitted_for h c) (λ n. reply n []) (λ x. reply_at x (decode c))

unfoldable pub left_for : Head → List ℕ → Reply
left_for h c = if_open (admitted_for h c) (λ n. reply n []) (λ x. reply 0 ((x.n - done_in c) ∷ []))
