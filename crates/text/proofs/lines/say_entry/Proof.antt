-- Method, ledger and masses stand one behind the other. Assumes nothing.
use borrow.Author.Rules.{rules}
use Rattle.text.proofs.PageLaws.{extended_more}
use Rattle.text.specs.Lines.{outcome_text}
use Rattle.text.proofs.lines.say_entry.Statement.{statement}
use Rattle.text.proofs.lines.say_entry.Tie as tie

say-method-requires : tie.Need-say_method-q-requires
say-method-requires c κs = search rules

say-ledger-requires : tie.Need-say_ledger-q-requires
say-ledger-requires c κs = search rules

say-masses-requires : tie.Need-say_masses-requires
say-masses-requires c κs = search rules

returns : tie.Need-returns
unfolding outcome_text
returns c =
    let method = c.say_method-q.ensures in
    extended_more _ _ _ (extended_more _ _ _ method c.say_ledger-q.ensures) c.say_masses.ensures

pub say_entry_spec : {M : Type 1} → statement M
say_entry_spec =
    tie.close (tie.spec say-method-requires say-ledger-requires say-masses-requires returns)
