-- What an operator is told of a wrong list of plants, behind the list's name. RULES, "List of plants".
--
--     mistake_text x    what is wrong with a line
--     wrong_text i l    the line for line i of a list, which is l and no plant's
--     fault_text t x    the line for the verdict x on the list t, whose lines are counted from 1; nothing if it
--                       is right
--
-- Laws: proofs/PlantsLaws.antt. Definitions only.
use Rattle.std.specs.Prelude.{ℕ, ◌+◌, List, [], ◌++◌, Result, Ok, Err}
use Rattle.roster.specs.declared.mistake.Mistake.{Mistake}
use Rattle.roster.specs.declared.mistake.Mistake.TheVariants.{Comment, Return, Space, Long, Form}
use Rattle.roster.specs.declared.plants.Fault.{Fault}
use Rattle.roster.specs.declared.plants.Fault.TheVariants.{Wrong, Again, Many}
use Rattle.roster.specs.Lines.{line_at}
use Rattle.roster.specs.Mistake.{mistake_in}
use Rattle.text.specs.Words.{ascii, field}

abbrev pub mistake_text : Mistake → List ℕ
mistake_text Comment = ascii " is a comment, and a list has none\n"
mistake_text Return = ascii " ends in a return: save the list with plain newlines\n"
mistake_text Space = ascii " has a space too many: no path in a list has one\n"
mistake_text Long = ascii " has a path that is too long\n"
mistake_text Form = ascii " isn't BOOK CHECKPOINT\n"

unfoldable pub wrong_text : ℕ → List ℕ → List ℕ
wrong_text i l = field (ascii "line ") (i + 1) ++ mistake_text (mistake_in l)

unfoldable pub fault_text : List ℕ → Result ℕ Fault → List ℕ
fault_text t (Ok n) = []
fault_text t (Err (Wrong i)) = wrong_text i (line_at i t)
fault_text t (Err (Again i)) = field (ascii "line ") (i + 1) ++ ascii " names a checkpoint again\n"
fault_text t (Err Many) = ascii "more than 16 plants\n"
