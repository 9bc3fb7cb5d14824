-- Warming values spread over tonnes and rest, and `carry` joins the two sums. Assumes nothing.
use Prim.Native.Nat.{ℕ, ◌+◌, ◌*◌}
use mathlib.Core.Path.{ap, ap₂, ◌∙◌}
use native.Mathlib.Omega.{arith}
use borrow.Author.Rules.{rules}
use Rattle.mass.specs.Ledger.{tonne, ledger_of}
use Rattle.mass.proofs.FiguresLaws.{mild_le, co2e_of_parts}
use Rattle.mass.proofs.figures.sum_co2e.Statement.{statement}
use Rattle.mass.proofs.figures.sum_co2e.Tie as tie

weigh-up-requires : tie.Need-weigh_up-tonnes-requires
weigh-up-requires c κs = search rules

weigh-up-requires-2 : tie.Need-weigh_up-rest-requires
weigh-up-requires-2 c κs = search rules

carry-requires : tie.Need-carry-requires
carry-requires c κs =
    let sound = c.before.before.requires.0 in
    let mild = c.before.before.requires.1 in
    omega (
      arith,
      c.before.weigh_up-tonnes.ensures,
      mild_le mild.ch4_le sound.ch4_sound.tonnes_le,
      mild_le mild.n2o_le sound.n2o_sound.tonnes_le,
    )

returns : tie.Need-returns
returns c =
    let a = c.before.before.before.args in
    let tonnes = c.before.before.weigh_up-tonnes.ensures in
    let rest = c.before.weigh_up-rest.ensures in
    c.carry.ensures
    ∙ ap ledger_of (ap₂ (λ (n x : ℕ). n * tonne + x) tonnes rest ∙ co2e_of_parts a.t a.w)

pub sum_co2e_spec : {M : Type 1} → statement M
sum_co2e_spec = tie.close (tie.spec weigh-up-requires weigh-up-requires-2 carry-requires returns)
