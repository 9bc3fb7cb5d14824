-- The monitor decides, then the rating. Assumes nothing.
use Rattle.std.proofs.Common.{ℕ, ◌<◌, ◌≤◌, sym, refl, subst, rules, le-leb}
use borrow.Author.Tests.{lt-leb}
use Rattle.choice.proofs.TestsLaws.{choose_t, choose_f, is}
use Rattle.rules.specs.Index.{column_of}
use Rattle.rules.proofs.index.find_column.Statement.{statement}
use Rattle.rules.proofs.index.find_column.Tie as tie

returns : tie.Need-returns-then-is_monitored
unfolding column_of
returns c = sym (choose_t _ (is c.is_monitored.ensures c.if-is_monitored.true) refl)

returns-2 : tie.Need-returns-then-rating-le-SMALL_RATING
unfolding column_of
returns-2 c =
    let no-monitor = is c.is_monitored.ensures c.if-is_monitored.false in
    let low = subst (λ (x : ℕ). x ≤ 2500) c.rating.ensures c.if-rating-le-SMALL_RATING.true in
    sym (choose_f _ no-monitor (choose_t _ (le-leb _ _ low) refl))

returns-3 : tie.Need-returns
unfolding column_of
returns-3 c =
    let no-monitor = is c.is_monitored.ensures c.if-is_monitored.false in
    let high = subst (λ (x : ℕ). 2500 < x) c.rating.ensures c.if-rating-le-SMALL_RATING.false in
    sym (choose_f _ no-monitor (choose_f _ (lt-leb _ _ high) refl))

pub find_column_spec : {M : Type 1} → statement M
find_column_spec =
    tie.close
    (tie.spec (λ c κs. search rules) (λ c. search rules) returns (λ c κs. search rules) (λ c. search rules) returns-2
    (λ c. search rules) returns-3)
