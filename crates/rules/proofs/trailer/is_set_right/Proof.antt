-- The set and the first bytes behind it, read as one word, and the others. Assumes nothing.
use Rattle.std.proofs.Common.{ℕ, leb, sym, refl, ◌∙◌, arith, rules}
use borrow.Author.Tests.{lt-leb}
use Rattle.choice.specs.Tests.{◌also◌}
use Rattle.choice.proofs.TestsLaws.{both, also_assoc}
use Rattle.rules.specs.Bytes.{byte, zeros}
use Rattle.rules.proofs.BytesLaws.{word_one, word_wide, zeros-split}
use Rattle.rules.proofs.trailer.is_set_right.Statement.{statement}
use Rattle.rules.proofs.trailer.is_set_right.Tie as tie

returns : tie.Need-returns
returns c =
    let l = c.args.l.now in
    let read = c.read_word-set.ensures.0 in
    let wide = word_wide (λ (x : ℕ). leb x 1) l 20 1 21 3 4 refl refl (λ x past. lt-leb x 1 (omega arith)) in
    let blank = sym (zeros-split l 21 3 24 8 11 refl refl) in
    both ((λ i. leb (read i) 1) ∙ wide ∙ λ i. leb (word_one l 20 i) 1 also zeros l 21 3) c.are_zero.ensures
    ∙ sym (also_assoc _ _ _)
    ∙ λ i. leb (byte l 20) 1 also blank i

pub is_set_right_spec : {M : Type 1} → statement M
is_set_right_spec = tie.close (tie.spec (λ c κs. search rules) (λ c κs. search rules) returns)
