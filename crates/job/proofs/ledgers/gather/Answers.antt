-- A high digit counts whole tonnes, and a low one is added in its unit.
use Prim.Native.Nat.{ℕ, ◌+◌, ◌*◌, ◌<◌, ◌≤◌}
use mathlib.Core.List.{List}
use mathlib.Core.Path.{◌≡◌, sym, ap, ◌∙◌}
use native.Mathlib.Nat.{add-zero, mul-zero}
use native.Mathlib.Omega.{arith}
use Rattle.mass.specs.declared.ledger.Ledger.{Ledger}
use Rattle.mass.specs.Ledger.{total, ledger_of, added}
use Rattle.mass.proofs.LedgerLaws.{total_parts, ledger_of-total, added-ledger_of}
use Rattle.job.specs.State.{ch4}
use Rattle.job.specs.Words.{full, low_at, high_at, unit_at, mass_at}
use Rattle.job.proofs.WordsLaws.{unit_at_co2, unit_at_trace}
use Rattle.job.proofs.ledgers.gather.Goals as goal

-- What the digits come to: of a place that has none, of CO2, and of another gas.
none : (w : List ℕ) (k : ℕ) → low_at w k ≡ 0 → high_at w k ≡ 0 → mass_at w k ≡ 0
unfolding mass_at
none w k p q = (λ i. unit_at k * (full * q i + p i)) ∙ mul-zero (unit_at k)

co2 : (w : List ℕ) (k : ℕ) → k < ch4 → mass_at w k ≡ 1000 * (full * high_at w k + low_at w k)
unfolding mass_at
co2 w k l = ap (λ (u : ℕ). u * (full * high_at w k + low_at w k)) (unit_at_co2 k l)

trace : (w : List ℕ) (k : ℕ) → ch4 ≤ k → mass_at w k ≡ 1 * (full * high_at w k + low_at w k)
unfolding mass_at
trace w k l = ap (λ (u : ℕ). u * (full * high_at w k + low_at w k)) (unit_at_trace k l)

gathered : {r : Ledger} (g q : Ledger) (v m : ℕ) → r ≡ added q v → total q + v ≡ total g + m → r ≡ ledger_of (total g + m)
gathered g q v m a s = a ∙ added-ledger_of q v ∙ ap ledger_of s

pub returns-then-high-eq0 : goal.returns-then-high-eq0
returns-then-high-eq0 c =
    let a = c.args in
    let nothing = none a.w.now a.k c.if-low-eq0.true c.if-high-eq0.true in
    record {
      gathered =
          sym (ap (λ (m : ℕ). ledger_of (total a.g + m)) nothing ∙ ap ledger_of (add-zero (total a.g))
          ∙ ledger_of-total a.g c.requires.light.0);
    }

pub raise-requires : goal.raise-requires
raise-requires c =
    let a = c.args in
    record { light = (c.requires.light.0, omega (arith, co2 a.w.now a.k c.if-k-lt-CH4.true, total_parts a.g)) }

pub returns-then-k-lt-CH4 : goal.returns-then-k-lt-CH4
returns-then-k-lt-CH4 c =
    let a = c.args in
    record {
      gathered =
          gathered a.g c.raise.result (1000 * low_at a.w.now a.k) (mass_at a.w.now a.k) c.add_ug.ensures.exact
          (omega (arith, co2 a.w.now a.k c.if-k-lt-CH4.true, c.raise.ensures.raised.0));
    }

pub raise-requires-2 : goal.raise-requires-2
raise-requires-2 c =
    let a = c.args in
    record { light = (c.requires.light.0, omega (arith, trace a.w.now a.k c.if-k-lt-CH4.false, total_parts a.g)) }

pub returns : goal.returns
returns c =
    let a = c.args in
    record {
      gathered =
          gathered a.g c.raise-2.result (low_at a.w.now a.k) (mass_at a.w.now a.k) c.add_ng.ensures.exact
          (omega (arith, trace a.w.now a.k c.if-k-lt-CH4.false, c.raise-2.ensures.raised.0));
    }
