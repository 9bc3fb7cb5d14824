-- The keys of two records are equal exactly if kind, unit and period are. Assumes nothing.
use Rattle.std.proofs.Common.{ℕ, List, subst, rules}
use Rattle.rules.specs.Key.{Keyed}
use Rattle.rules.proofs.KeyLaws.{stands_in_one}
use Rattle.rules.proofs.repeat.has_key.Statement.{statement}
use Rattle.rules.proofs.repeat.has_key.Tie as tie

take-line-requires : tie.Need-take_line-requires
take-line-requires c κs = search rules

read-key-requires : tie.Need-read_key-requires
read-key-requires c κs = search rules

returns : tie.Need-returns
returns c =
    let a = c.args in
    let read = c.read_key in
    let key = subst (λ (l : List ℕ). Keyed l read.result) c.take_line.ensures read.ensures in
    λ l h. stands_in_one l a.j a.book.now h key

pub has_key_spec : {M : Type 1} → statement M
has_key_spec = tie.close (tie.spec take-line-requires read-key-requires returns)
