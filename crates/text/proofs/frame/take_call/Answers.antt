-- The numbers are asked for in the definition's order.
use Rattle.std.proofs.Common.{sym, refl, arith, eq-eqb, ne_eqb}
use Rattle.choice.proofs.TestsLaws.{choose_t, choose_f}
use Rattle.text.specs.Frame.{call_of}
use Rattle.text.proofs.frame.take_call.Goals as goal

pub returns-in-1 : goal.returns-in-1
unfolding call_of
returns-in-1 c = record { call = sym (choose_t _ (eq-eqb _ _ c.in-1.is) refl) }

pub returns-in-2 : goal.returns-in-2
unfolding call_of
returns-in-2 c =
    record { call = sym (choose_f _ (ne_eqb _ _ (λ z. omega arith)) (choose_t _ (eq-eqb _ _ c.in-2.is) refl)) }

pub returns-in-3 : goal.returns-in-3
unfolding call_of
returns-in-3 c = record {
  call = sym (choose_f _ (ne_eqb _ _ (λ z. omega arith)) (choose_f _ (ne_eqb _ _ (λ z. omega arith))
      (choose_t _ (eq-eqb _ _ c.in-3.is) refl)));
}

pub returns-in_default : goal.returns-in_default
unfolding call_of
returns-in_default c = record {
  call = sym (choose_f _ (ne_eqb _ _ (λ z. omega arith)) (choose_f _ (ne_eqb _ _ (λ z. omega arith))
      (choose_f _ (ne_eqb _ _ (λ z. omega arith)) refl)));
}
