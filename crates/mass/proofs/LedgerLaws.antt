-- A canonical ledger is determined by its total, and what is added is in the total.
-- Assumes nothing.
use Prim.Native.Nat.{ℕ, ◌+◌, ◌*◌, ◌/◌, ◌%◌, ◌≤◌}
use mathlib.Core.Path.{◌≡◌, refl}
use native.Mathlib.Omega.{arith}
use Rattle.mass.specs.declared.ledger.Ledger.{Ledger}
use Rattle.mass.specs.Ledger.{tonne, most_tonnes, total, Canonical, Sound, ledger_of, added}

path : (g k : Ledger) → g.tonnes ≡ k.tonnes → g.rest.0 ≡ k.rest.0 → g ≡ k
path g k p q = λ i. record { tonnes = p i; rest = record { 0 = q i } }

pub total_inj : (g k : Ledger) → Canonical g → Canonical k → total g ≡ total k → g ≡ k
unfolding total
total_inj g k h j e = path g k (omega arith) (omega arith)

pub total_parts : (g : Ledger) → total g ≡ g.tonnes * tonne + g.rest.0
unfolding total
total_parts g = refl

pub total_tonnes : (g : Ledger) → Canonical g → total g / tonne ≡ g.tonnes
unfolding total
total_tonnes g h = omega arith

pub total-rest : (g : Ledger) → Canonical g → total g % tonne ≡ g.rest.0
unfolding total
total-rest g h = omega arith

pub total-ledger_of : (v : ℕ) → total (ledger_of v) ≡ v
unfolding total ledger_of
total-ledger_of v = omega arith

pub canonical-ledger_of : (v : ℕ) → Canonical (ledger_of v)
unfolding ledger_of
canonical-ledger_of v = omega arith

pub sound-ledger_of : (v : ℕ) → v / tonne ≤ most_tonnes → Sound (ledger_of v)
unfolding ledger_of
sound-ledger_of v l = record { canonical = canonical-ledger_of v; tonnes_le = l }

-- Tonnes and a rest, whichever way they were come by, are the ledger of what they stand for.
pub ledger_of_unique : (g : Ledger) (v : ℕ) → Canonical g → g.tonnes * tonne + g.rest.0 ≡ v → g ≡ ledger_of v
unfolding ledger_of
ledger_of_unique g v h e = path g (ledger_of v) (omega arith) (omega arith)

pub ledger_of-total : (g : Ledger) → Canonical g → ledger_of (total g) ≡ g
unfolding total ledger_of
ledger_of-total g h = path (ledger_of (total g)) g (omega arith) (omega arith)

pub added-ledger_of : (g : Ledger) (v : ℕ) → added g v ≡ ledger_of (total g + v)
unfolding added
added-ledger_of g v = refl

pub total-added : (g : Ledger) (v : ℕ) → total (added g v) ≡ total g + v
unfolding added
total-added g v = total-ledger_of (total g + v)
