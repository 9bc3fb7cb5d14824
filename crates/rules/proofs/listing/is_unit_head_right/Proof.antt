-- Flags and gap, read as one word, are 0, 1 or 3: dry gas is measured only by a monitor. Assumes nothing.
use Rattle.std.proofs.Common.{◌≡◌, ℕ, zero, suc, ◌/◌, ◌%◌, ◌≤◌, Bool, not, eqb, leb, sym, refl, ap, ◌∙◌, arith, rules, leb-true}
use borrow.Author.Tests.{lt-leb}
use Rattle.choice.specs.Tests.{◌also◌, ◌either◌}
use Rattle.choice.proofs.TestsLaws.{both, also_f, also_same, either_t, either_f}
use Rattle.rules.specs.Book.{unit_head_ok}
use Rattle.rules.specs.Fields.{unit_flags, unit_gap}
use Rattle.rules.proofs.BytesLaws.{word_one, word_wide}
use Rattle.rules.proofs.listing.is_unit_head_right.Statement.{statement}
use Rattle.rules.proofs.listing.is_unit_head_right.Tie as tie

flagged : (f : ℕ) → f ≤ 3 → not (eqb f 2) ≡ (eqb (f % 2) 1 either not (eqb (f / 2 % 2) 1))
flagged zero few = sym (either_f refl refl)
flagged (suc zero) few = sym (either_t _ refl)
flagged (suc (suc zero)) few = sym (either_f refl refl)
flagged (suc (suc (suc zero))) few = sym (either_t _ refl)
flagged (suc (suc (suc (suc f)))) few = absurd (omega arith)

returns : tie.Need-returns
unfolding unit_head_ok
returns c =
    let u = c.args.u.now in
    let read = c.read_word-flags.ensures.0 in
    let rating = c.rating-rating.ensures in
    let wide =
    word_wide (λ (x : ℕ). leb x 3 also not (eqb x 2)) u 2 1 3 1 2 refl refl
    (λ x past. also_f (not (eqb x 2)) (lt-leb x 3 (omega arith))) in
    let flags =
    both (λ i. leb (read i) 3) (λ i. not (eqb (read i) 2))
    ∙ wide
    ∙ (λ i. leb (word_one u 2 i) 3 also not (eqb (word_one u 2 i) 2) also unit_gap u)
    ∙ ap (λ (b : Bool). b also unit_gap u)
    (also_same (leb (unit_flags u) 3) (λ few. flagged (unit_flags u) (leb-true (unit_flags u) 3 few))) in
    both (both flags (λ i. leb 1 (rating i))) (λ i. leb (rating i) 100000)

pub is_unit_head_right_spec : {M : Type 1} → statement M
is_unit_head_right_spec = tie.close (tie.spec (λ c κs. search rules) (λ c κs. search rules) returns)
