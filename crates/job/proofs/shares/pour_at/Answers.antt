-- The high digit has room for the whole digits, and the low one for the rest.
use Rattle.std.proofs.Common.{ℕ, List, ap, ◌∙◌}
use native.Mathlib.Nat.{le_refl}
use Rattle.job.specs.Words.{added}
use Rattle.job.specs.Shares.{poured}
use Rattle.job.proofs.PouredLaws.{room_twice}
use Rattle.job.proofs.shares.pour_at.Goals as goal

pub add-requires-2-clause-room : goal.add-requires-2-clause-room
add-requires-2-clause-room c =
    let a = c.args in
    let p = c.requires in
    rw c.add.ensures.added ((room_twice a.w.now a.i a.units a.rest p.there p.kept p.few.0 p.few.1 (le_refl _)).1)

pub returns : goal.returns
unfolding poured
returns c =
    let a = c.args in
    record { poured = c.add-2.ensures.added ∙ ap (λ (w : List ℕ). added w a.i a.rest) c.add.ensures.added }
