-- The year and the gap behind it, read as one word. Assumes nothing.
use Rattle.std.proofs.Common.{ℕ, leb, refl, ◌∙◌, arith, rules}
use borrow.Author.Tests.{lt-leb}
use Rattle.choice.specs.Tests.{◌also◌}
use Rattle.choice.proofs.TestsLaws.{both, also_fail}
use Rattle.rules.proofs.BytesLaws.{word_wide}
use Rattle.rules.proofs.trailer.is_year_right.Statement.{statement}
use Rattle.rules.proofs.trailer.is_year_right.Tie as tie

returns : tie.Need-returns
returns c =
    let read = c.read_word-year.ensures.0 in
    both (λ i. leb 2000 (read i)) (λ i. leb (read i) 2099)
    ∙ word_wide (λ (x : ℕ). leb 2000 x also leb x 2099) _ 16 2 18 2 4 refl refl
    (λ x past. also_fail (leb 2000 x) (lt-leb x 2099 (omega arith)))

pub is_year_right_spec : {M : Type 1} → statement M
is_year_right_spec = tie.close (tie.spec (λ c κs. search rules) returns)
