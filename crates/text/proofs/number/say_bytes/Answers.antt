-- The rest goes on as a number of fewer bytes.
use Rattle.std.proofs.Common.{◌≡◌, ℕ, suc, ◌+◌, ◌-◌, arith, ap}
use native.Mathlib.Nat.{sub-zero}
use Rattle.rules.specs.Bytes.{bytes_of}
use Rattle.text.specs.Extended.{extended}
use Rattle.text.proofs.PageLaws.{extended_bytes_next, extended_bytes_last}
use Rattle.text.proofs.number.say_bytes.Goals as goal

pub loop-init : goal.loop-init
loop-init c = ap (λ (m : ℕ). extended c.args.p (bytes_of m c.args.v)) (sub-zero _)

pub loop-preserved : goal.loop-preserved
loop-preserved c =
    let n = c.args.n in
    let at = c.loop in
    let one : n - at.counter ≡ suc (n - (at.counter + 1)) = omega arith in
    extended_bytes_next at.next (n - at.counter) (n - (at.counter + 1)) at.rest one c.say_byte-next.ensures.said at.invariant

pub returns : goal.returns
returns c =
    let n = c.args.n in
    let at = c.loop in
    let none : n - at.counter ≡ 0 = omega arith in
    record { said = extended_bytes_last at.next (n - at.counter) at.rest none at.invariant }
