-- The code asks for a whole line first, as the definition does. Assumes nothing.
use Rattle.std.proofs.Common.{sym, refl, ap, ◌∙◌, rules, le-ltb, lt-ltb}
use Rattle.choice.proofs.TestsLaws.{choose_t, choose_f}
use Rattle.rules.specs.Fields.{kind}
use Rattle.rules.specs.Reader.{kind_at}
use Rattle.rules.proofs.reader.find_kind.Statement.{statement}
use Rattle.rules.proofs.reader.find_kind.Tie as tie

take-line-requires : tie.Need-take_line-requires
take-line-requires c κs = search rules

kind-requires : tie.Need-kind-requires
kind-requires c κs = search rules

returns : tie.Need-returns-then-i-book
unfolding kind_at
returns c =
    c.kind.ensures
    ∙ ap kind c.take_line.ensures
    ∙ sym (choose_t _ (lt-ltb _ _ c.if-i-book.true) refl)

returns-2 : tie.Need-returns
unfolding kind_at
returns-2 c = sym (choose_f _ (le-ltb _ _ c.if-i-book.false) refl)

pub find_kind_spec : {M : Type 1} → statement M
find_kind_spec = tie.close (tie.spec take-line-requires kind-requires returns returns-2)
