-- A proof by cases on a test, an order or an equation of numbers. Assumes nothing.
use Prim.Native.Nat.{ℕ, ◌<◌, ◌≤◌}
use mathlib.Core.Bool.{Bool, true, false}
use mathlib.Core.Path.{◌≡◌, refl}
use lib.Dec.{ltb, eqb}
use borrow.Author.Tests.{ltb-true, ltb-false, eqb-true, eqb-false}

pub if_test : {G : Type 0} (t : Bool) → (t ≡ true → G) → (t ≡ false → G) → G
if_test true y n = y refl
if_test false y n = n refl

pub if_lt : {G : Type 0} (a b : ℕ) → (a < b → G) → (b ≤ a → G) → G
if_lt a b y n = if_test (ltb a b) (λ e. y (ltb-true a b e)) (λ e. n (ltb-false a b e))

pub if_eq : {G : Type 0} (a b : ℕ) → (a ≡ b → G) → ((a ≡ b → ⊥) → G) → G
if_eq a b y n = if_test (eqb a b) (λ e. y (eqb-true a b e)) (λ e. n (eqb-false a b e))
