-- What is seen of a record of any bytes, book or not. RULES, "Numbers" and "Reasons".
--
--     Shown             what becomes of a record, a reason being told by its number
--     numbered o        the outcome o told so
--     sight_by a s i    the same as `sight_at`, of bytes s that were answered by a
--     sight_at s i      the number that refuses s; or that it has no record i; or what becomes of it
--     sight r           the number or outcome that r stands for
--     kind_at s i       the kind of record i, whatever becomes of it; 0 where s has no such line
--     left_by a i       the same as `left_from`, of bytes that were answered by a
--     left_from s i     how many records there are from place i on; none of bytes that are refused
--     place_after s i   the place after i; from the length of s on, i itself
--     advanced r        r at the place after its next
--
-- Definitions only.
use Rattle.std.specs.Prelude.{ℕ, ◌+◌, ◌-◌, ◌/◌, List, length, nat_lt, Option, Some, None, Result, Ok, Err}
use Rattle.choice.specs.Tests.{choose}
use Rattle.rules.specs.declared.reader.Reader.{Reader}
use Rattle.rules.specs.declared.book.Fault.{Fault}
use Rattle.rules.specs.declared.entry.Entry.{Entry}
use Rattle.rules.specs.Outcome.{reason_number, Outcome}
use Rattle.rules.specs.Bytes.{line}
use Rattle.rules.specs.Fields.{kind}
use Rattle.rules.specs.Book.{Answer, refused, accepted, opened, fault_number}
use Rattle.rules.specs.Record.{outcome_at}

abbrev pub Shown : Type 0
Shown = Result Entry ℕ

unfoldable pub numbered : Outcome → Shown
numbered (Ok e) = Ok e
numbered (Err k) = Err (reason_number k)

pub data Sight : Type 0 where
  turned_away : ℕ → Sight
  missing : Sight
  shown : Shown → Sight

unfoldable pub sight_by : Answer → List ℕ → ℕ → Sight
sight_by (refused n) s i = turned_away n
sight_by (accepted h) s i = choose (nat_lt i h.n) (shown (numbered (outcome_at h s i))) missing

unfoldable pub sight_at : List ℕ → ℕ → Sight
sight_at s i = sight_by (opened s) s i

unfoldable pub sight : Result (Option Shown) Fault → Sight
sight (Err x) = turned_away (fault_number x)
sight (Ok None) = missing
sight (Ok (Some o)) = shown o

unfoldable pub kind_at : List ℕ → ℕ → ℕ
kind_at s i = choose (nat_lt i (length s / 32)) (kind (line i s)) 0

unfoldable pub left_by : Answer → ℕ → ℕ
left_by (refused n) i = 0
left_by (accepted h) i = h.n - i

unfoldable pub left_from : List ℕ → ℕ → ℕ
left_from s i = left_by (opened s) i

unfoldable pub place_after : List ℕ → ℕ → ℕ
place_after s i = choose (nat_lt i (length s)) (i + 1) i

unfoldable pub advanced : Reader → Reader
advanced r = record { book = r.book; next = place_after r.book.now r.next }
