-- Only an hour or anodes are looked for. Assumes nothing.
use Rattle.std.proofs.Common.{sym, refl, ap, ◌∙◌, rules}
use Rattle.choice.proofs.TestsLaws.{is, also_t, also_f}
use Rattle.rules.specs.Repeat.{repeatable, repeated}
use Rattle.rules.proofs.repeat.is_repeated.Statement.{statement}
use Rattle.rules.proofs.repeat.is_repeated.Tie as tie

take-line-requires : tie.Need-take_line-requires
take-line-requires c κs = search rules

is-repeatable-requires : tie.Need-is_repeatable-requires
is-repeatable-requires c κs = search rules

returns : tie.Need-returns-then-not-is_repeatable
unfolding repeated
returns c =
    let told = c in
    sym (also_f _ (is (told.is_repeatable.ensures ∙ ap repeatable told.take_line.ensures) c.if-not-is_repeatable.true))

does-stand-requires : tie.Need-does_stand-requires
does-stand-requires c κs = search rules

returns-2 : tie.Need-returns
unfolding repeated
returns-2 c =
    let test = c in
    let told = test in
    c.does_stand.ensures
    ∙ sym (also_t (is (told.is_repeatable.ensures ∙ ap repeatable told.take_line.ensures) test.if-not-is_repeatable.false) refl)

pub is_repeated_spec : {M : Type 1} → statement M
is_repeated_spec =
    tie.close (tie.spec take-line-requires is-repeatable-requires returns does-stand-requires returns-2)
