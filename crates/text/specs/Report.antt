-- What is printed of a report, and what `annual` prints. RULES, "Programs" and "Numbers".
--
--     value vs i          value i that a reply gives back
--     aside_text vs       the record and its reason, which 41 gives back
--     refused_text n vs   the line of a refusal: its number and, for 41, the record and its reason
--     decision_text d     the line of the decision
--     figures_text h vs   the report of a book with the head h: year, records, figures, decision
--     reply_text h r      what is printed of the reply to a report
--     year_text k         the report of any bytes once every record was gone through, or their refusal
--     annual_most         the most bytes of a book that `annual` takes
--     annual_text k       what `annual` prints of any bytes
--     annual_held s more  the same of bytes of which it holds the first, s, if more says whether there are more
--
-- Laws: proofs/ReportLaws.antt. Definitions only.
use Rattle.std.specs.Prelude.{ℕ, Bool, List, [], ◌++◌, nat_eq, nat_lt, length, slice_index}
use Rattle.choice.specs.Tests.{choose}
use Rattle.rules.specs.declared.book.Head.{Head}
use Rattle.rules.specs.Book.{opened}
use Rattle.job.specs.State.{first}
use Rattle.job.specs.Reply.{Reply, reply}
use Rattle.job.specs.Wake.{if_open}
use Rattle.job.specs.Report.{reply_at}
use Rattle.text.specs.Words.{ascii, newline, field, line}

abbrev pub value : List ℕ → ℕ → ℕ
value vs i = slice_index vs i

abbrev pub aside_text : List ℕ → List ℕ
aside_text vs = field (ascii " record ") (value vs 0) ++ field (ascii " reason ") (value vs 1)

unfoldable pub refused_text : ℕ → List ℕ → List ℕ
refused_text n vs = field (ascii "refused ") n ++ choose (nat_eq n 41) (aside_text vs) [] ++ newline

unfoldable pub decision_text : ℕ → List ℕ
decision_text d = choose (nat_eq d 1) (ascii "must-report yes\n") (ascii "must-report no\n")

unfoldable pub figures_text : Head → List ℕ → List ℕ
figures_text h vs =
    line (ascii "year ") h.year
    ++ line (ascii "records ") h.n
    ++ line (ascii "fossil-co2-kg ") (value vs 0)
    ++ line (ascii "biomass-co2-kg ") (value vs 1)
    ++ line (ascii "ch4-kg ") (value vs 2)
    ++ line (ascii "n2o-kg ") (value vs 3)
    ++ line (ascii "co2e-kg ") (value vs 4)
    ++ decision_text (value vs 5)

unfoldable pub reply_text : Head → Reply → List ℕ
reply_text h (reply n vs) = choose (nat_eq n 0) (figures_text h vs) (refused_text n vs)

unfoldable pub year_text : List ℕ → List ℕ
year_text k =
    if_open (opened k) (λ n. refused_text n []) (λ h. reply_text h (reply_at h (first h k h.n)))

abbrev pub annual_most : ℕ
annual_most = 65536

unfoldable pub annual_text : List ℕ → List ℕ
annual_text k = choose (nat_lt annual_most (length k)) (refused_text 20 []) (year_text k)

unfoldable pub annual_held : List ℕ → Bool → List ℕ
annual_held s more = choose more (refused_text 20 []) (annual_text s)
