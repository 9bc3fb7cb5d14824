-- A text and its lines. RULES, "List of plants".
--
--     newline        the byte that ends a line
--     Split          a text's ended lines, each without its newline, and what stands after the last newline
--     led x ls u     the lines ls and the unended u, with the byte x before them
--     split t        t's lines and what is unended of it
--     lines_of t     t's lines
--     line_at i t    line i of t, counted from 0; nothing, if there is no such line
--     after i t      what stands after the first i lines of t; nothing, if there are fewer
--     through i t    the first i lines of t with their newlines; all of t, if there are fewer
--
-- Laws: proofs/LinesLaws.antt. Definitions only.
use Rattle.std.specs.Prelude.{ℕ, zero, suc, List, [], ◌∷◌, ◌++◌, nat_eq, slice_index_or, take}
use Rattle.choice.specs.Tests.{choose}
use Rattle.roster.specs.Bytes.{span, rest}

abbrev pub newline : ℕ
newline = 10

pub record Split : Type 0 where
  pub lines : List (List ℕ)
  pub unended : List ℕ

unfoldable pub led : ℕ → List (List ℕ) → List ℕ → Split
led x [] u = record { lines = []; unended = x ∷ u }
led x (l ∷ ls) u = record { lines = (x ∷ l) ∷ ls; unended = u }

unfoldable pub split : List ℕ → Split
split [] = record { lines = []; unended = [] }
split (x ∷ t) =
    choose (nat_eq x newline)
    (record { lines = [] ∷ (split t).lines; unended = (split t).unended })
    (led x (split t).lines (split t).unended)

abbrev pub lines_of : List ℕ → List (List ℕ)
lines_of t = (split t).lines

unfoldable pub line_at : ℕ → List ℕ → List ℕ
line_at i t = slice_index_or (lines_of t) i []

unfoldable pub after : ℕ → List ℕ → List ℕ
after zero t = t
after (suc i) t = after i (rest newline t)

unfoldable pub through : ℕ → List ℕ → List ℕ
through zero t = []
through (suc i) t = take (suc (span newline t)) t ++ through i (rest newline t)
