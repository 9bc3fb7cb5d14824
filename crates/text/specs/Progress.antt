-- What is printed of a wake that has saved: how far it went and, when the book is finished, the report.
-- RULES, "Programs".
--
--     moved_text gap h m d      m records gone through by this wake, and d done of all, behind a gap
--     progress_by gap h m r     what is printed, of the reply r to a report of what was saved
--     progress_with gap k c m   what is printed of a wake of the book k that went through m records and saved c
--     progress_text k c m       the same as `wake` prints it: how far it went in two lines
--     turn_text k c m           the same as `tablet` prints it, behind a plant's name: in one line
--     hint_text n               what an operator is told beside a refusal, behind the checkpoint's path: what 30 and
--                               31 ask for
--
-- Laws: proofs/ProgressLaws.antt. Definitions only.
use Rattle.std.specs.Prelude.{ℕ, List, [], ◌++◌, nat_eq}
use Rattle.choice.specs.Tests.{choose, ◌either◌}
use Rattle.rules.specs.declared.book.Head.{Head}
use Rattle.rules.specs.Book.{opened}
use Rattle.job.specs.Reply.{Reply, reply}
use Rattle.job.specs.Wake.{if_open}
use Rattle.job.specs.Report.{report_reply}
use Rattle.text.specs.Words.{ascii, field, line}
use Rattle.text.specs.Report.{value, refused_text, reply_text}

unfoldable pub moved_text : List ℕ → Head → ℕ → ℕ → List ℕ
moved_text gap h m d = field (ascii "moved ") m ++ field gap d ++ line (ascii " of ") h.n

-- 40 tells how many are done; figures and 41 are given of a finished book alone.
unfoldable pub progress_by : List ℕ → Head → ℕ → Reply → List ℕ
progress_by gap h m (reply n vs) =
    choose (nat_eq n 40) (moved_text gap h m (value vs 0))
    (choose (nat_eq n 0 either nat_eq n 41) (moved_text gap h m h.n ++ reply_text h (reply n vs))
    (refused_text n vs))

unfoldable pub progress_with : List ℕ → List ℕ → List ℕ → ℕ → List ℕ
progress_with gap k c m = if_open (opened k) (λ n. refused_text n []) (λ h. progress_by gap h m (report_reply k c))

unfoldable pub progress_text : List ℕ → List ℕ → ℕ → List ℕ
progress_text k c m = progress_with (ascii "\ndone ") k c m

unfoldable pub turn_text : List ℕ → List ℕ → ℕ → List ℕ
turn_text k c m = progress_with (ascii " done ") k c m

unfoldable pub hint_text : ℕ → List ℕ
hint_text n =
    choose (nat_eq n 30 either nat_eq n 31)
    (ascii " isn't this book's checkpoint; wake BOOK CHECKPOINT BUDGET fresh starts anew\n")
    []
