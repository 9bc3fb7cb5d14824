-- The code's row of tests, of what it read, is the definition's. Assumes nothing.
use Rattle.std.proofs.Common.{◌∙◌, rules}
use Rattle.choice.proofs.TestsLaws.{both, also_assoc}
use Rattle.rules.specs.Book.{starts_ok, trailer_ok}
use Rattle.rules.proofs.book.is_trailer_right.Statement.{statement}
use Rattle.rules.proofs.book.is_trailer_right.Tie as tie

returns : tie.Need-returns
unfolding trailer_ok
returns c =
    let tested = c in
    let named = tested in
    let e = named.args.e in
    let signed = named.is_signed-signed.ensures in
    let version = named.is_version_right-version_right.ensures in
    let units = tested.unit_start.ensures in
    let fuels = tested.fuel_start.ensures in
    let starts = tested.are_starts_right-starts_right.ensures ∙ λ i. starts_ok (units i) (fuels i) e in
    let year = c.is_year_right-year_right.ensures in
    let set = c.is_set_right-set_right.ensures in
    both (both (both (both signed version) starts) year) set ∙ simp also_assoc

pub is_trailer_right_spec : {M : Type 1} → statement M
is_trailer_right_spec =
    tie.close
    (tie.spec
    (λ c κs. search rules) (λ c κs. search rules) (λ c κs. search rules) (λ c κs. search rules) (λ c κs. search rules)
    (λ c κs. search rules) (λ c κs. search rules) returns)
