-- The version and the gap behind it, read as one word. Assumes nothing.
use Rattle.std.proofs.Common.{ℕ, eqb, refl, ◌∙◌, arith, rules, ne_eqb}
use Rattle.rules.proofs.BytesLaws.{word_wide}
use Rattle.rules.proofs.trailer.is_version_right.Statement.{statement}
use Rattle.rules.proofs.trailer.is_version_right.Tie as tie

returns : tie.Need-returns
returns c =
    let read = c.read_word.ensures.0 in
    (λ i. eqb (read i) 1)
    ∙ word_wide (λ (x : ℕ). eqb x 1) _ 4 2 6 2 4 refl refl (λ x past. ne_eqb x 1 (λ e. omega arith))

pub is_version_right_spec : {M : Type 1} → statement M
is_version_right_spec = tie.close (tie.spec (λ c κs. search rules) returns)
