use Rattle.std.proofs.Common.{ℕ, ◌-◌, ◌%◌, List, sym, ◌∙◌, subst, ap, arith}
use Rattle.rules.specs.Bytes.{line}
use Rattle.rules.specs.Key.{Keyed, stands_in}
use Rattle.rules.proofs.KeyLaws.{scan_found, scan_on}
use Rattle.rules.proofs.repeat.does_stand.Goals as goal
use Rattle.rules.proofs.repeat.does_stand.Goals.{After-read_key-key, else-loop-j-test, then-loop-j-test+else-is_one_of_four+else-fours-j-gt4}

-- The key is that of record i.
own : (c : After-read_key-key) → Keyed (line c.args.i c.args.book.now) c.read_key-key.result
own c = subst (λ (l : List ℕ). Keyed l c.read_key-key.result) c.take_line.ensures.line c.read_key-key.ensures.key

pub returns-then-is_one_of_four : goal.returns-then-is_one_of_four
returns-then-is_one_of_four c =
    let told = c.is_one_of_four.ensures.one _ (own (goal.at.returns-then-is_one_of_four c).After-read_key-key) in
    let four = scan_found _ _ _ _ 4 (omega arith) told c.if-is_one_of_four.true in
    record { stands = sym (c.loop-j.invariant.left ∙ four) }

pub loop-j-preserved : goal.loop-j-preserved
loop-j-preserved c =
    let told = c.is_one_of_four.ensures.one _ (own (goal.at.loop-j-preserved c).After-read_key-key) in
    record {
      end = omega arith;
      whole = omega arith;
      left = c.loop-j.invariant.left ∙ scan_on _ _ _ _ 4 (omega arith) told c.if-is_one_of_four.false;
    }

pub returns : goal.returns
returns c =
    let a = c.args in
    let l = line a.i a.book.now in
    let keyed = own (goal.at.returns c).After-read_key-key in
    let rest = c.is_one_of.ensures.one l keyed in
    let left = c.loop-j.invariant.left in
    let fours = a.i - a.i % 4 in
    record {
      stands = elim c.loop-j-test.branch [
        | else-loop-j-test w ↦
            rest ∙ sym (left ∙ ap (λ (j : ℕ). stands_in l j (a.i - j) a.book.now) (omega arith))
        | then-loop-j-test+else-is_one_of_four+else-fours-j-gt4 w ↦
            rest
            ∙ sym
            (left
            ∙ scan_on l a.book.now a.i c.loop-j.j 4 (omega arith) (w.is_one_of_four.ensures.one l keyed) w.if-is_one_of_four.false
            ∙ ap (λ (j : ℕ). stands_in l j (a.i - j) a.book.now) (omega arith))
      ];
    }
