-- A value above the highest stays above it, whatever is left.
use Rattle.std.proofs.Common.{◌+◌, drop, arith, rules, sym, ◌∙◌, eqb-true}
use Rattle.std.proofs.lemmas.Bool.{eqb-false}
use Rattle.text.proofs.BudgetLaws.{budget_in-nil, budget_in_some, budget_from_digit, budget_from_other, budget_from_above, budget_from_end, is_digit-ascii}
use Rattle.text.proofs.budget.read.Goals as goal

pub returns-then-is_empty : goal.returns-then-is_empty
returns-then-is_empty c =
    record { budget = budget_in-nil c.args.word.now (eqb-true _ 0 (sym c.is_empty.ensures ∙ c.if-is_empty.true)) }

pub loop-b-init : goal.loop-b-init
loop-b-init c =
    let w = c.args.word.now in
    let some = eqb-false _ 0 (sym c.is_empty.ensures ∙ c.if-is_empty.false) in
    (search rules, budget_in_some w (omega (arith, some)))

pub returns-then-not-is_ascii_digit : goal.returns-then-not-is_ascii_digit
returns-then-not-is_ascii_digit c =
    let at = c.loop-b in
    let other = sym (is_digit-ascii _) ∙ sym c.is_ascii_digit.ensures.value ∙ c.if-not-is_ascii_digit.true in
    record { budget = budget_from_other at.v c.args.word.now at.b-index c.loop-b-test.true at.invariant.1 other }

pub returns-then-v-gt-HIGHEST : goal.returns-then-v-gt-HIGHEST
returns-then-v-gt-HIGHEST c =
    let at = c.loop-b in
    let w = c.args.word.now in
    let digit = sym (is_digit-ascii _) ∙ sym c.is_ascii_digit.ensures.value ∙ c.if-not-is_ascii_digit.false in
    record {
      budget = budget_from_above _ (drop (at.b-index + 1) w)
          (budget_from_digit at.v w at.b-index c.loop-b-test.true at.invariant.1 digit) c.if-v-gt-HIGHEST.true;
    }

pub loop-b-preserved : goal.loop-b-preserved
loop-b-preserved c =
    let at = c.loop-b in
    let digit = sym (is_digit-ascii _) ∙ sym c.is_ascii_digit.ensures.value ∙ c.if-not-is_ascii_digit.false in
    (c.if-v-gt-HIGHEST.false, budget_from_digit at.v c.args.word.now at.b-index c.loop-b-test.true at.invariant.1 digit)

pub returns : goal.returns
returns c =
    let at = c.loop-b in
    record { budget = budget_from_end at.v c.args.word.now at.b-index c.loop-b-test.false at.invariant.1 at.invariant.0 }
