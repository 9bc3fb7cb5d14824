-- A row of tests, gone through test by test; what holds of a choice; and the code's `&` and `|` as
-- rows. Assumes nothing.
use Prim.Native.Nat.{ℕ}
use mathlib.Core.Bool.{Bool, true, false, ◌&&◌, ◌||◌}
use mathlib.Core.Logic.{◌↔◌}
use mathlib.Core.Path.{◌≡◌, refl, sym, ◌∙◌, subst}
use native.Mathlib.Omega.{arith}
use lib.Dec.{T, ltb, eqb}
use borrow.Author.Tests.{eq-eqb, ne_eqb, lt-ltb, le-ltb}
use Rattle.choice.specs.Tests.{◌also◌, ◌either◌, choose}

-- ---- rows
pub also_t : {a b r : Bool} → a ≡ true → b ≡ r → (a also b) ≡ r
unfolding ◌also◌
also_t p q = rw p q

pub also_f : {a : Bool} (b : Bool) → a ≡ false → (a also b) ≡ false
unfolding ◌also◌
also_f b p = rw p

pub also_l : (a b : Bool) → (a also b) ≡ true → a ≡ true
unfolding ◌also◌
also_l true b h = refl
also_l false b h = h

pub also_r : (a b : Bool) → (a also b) ≡ true → b ≡ true
unfolding ◌also◌
also_r true b h = h
also_r false b h = absurd (subst T (sym h) tt)

pub also_iff : (a b : Bool) → ((a also b) ≡ true) ↔ ((a ≡ true) × (b ≡ true))
also_iff a b = (λ h. (also_l a b h, also_r a b h), λ h. also_t h.0 h.1)

pub also_assoc : (a b c : Bool) → (a also (b also c)) ≡ (a also b also c)
unfolding ◌also◌
also_assoc true b c = refl
also_assoc false b c = refl

pub also_swap : (a b c : Bool) → (a also b also c) ≡ (a also c also b)
unfolding ◌also◌
also_swap false b c = refl
also_swap true false false = refl
also_swap true false true = refl
also_swap true true false = refl
also_swap true true true = refl

-- What comes behind a test counts only where this passes.
pub also_same : (a : Bool) {b b' : Bool} → (a ≡ true → b ≡ b') → (a also b) ≡ (a also b')
unfolding ◌also◌
also_same true h = h refl
also_same false h = refl

-- A last test that passes leaves a row as it is, and one that fails ends it.
pub also_pass : (a : Bool) {b : Bool} → b ≡ true → (a also b) ≡ a
unfolding ◌also◌
also_pass true p = p
also_pass false p = refl

pub also_fail : (a : Bool) {b : Bool} → b ≡ false → (a also b) ≡ false
unfolding ◌also◌
also_fail true p = p
also_fail false p = refl

-- The code's `a & b` is a row of what a and b are, and its `a | b` a choice of them.
pub both : {a b a' b' : Bool} → a ≡ a' → b ≡ b' → (a && b) ≡ (a' also b')
both {a} {b} p q = and_also a b ∙ λ i. p i also q i
  where
    and_also : (a b : Bool) → (a && b) ≡ (a also b)
    and_also true b = sym (also_t refl refl)
    and_also false b = sym (also_f b refl)

pub either_t : {a : Bool} (b : Bool) → a ≡ true → (a either b) ≡ true
unfolding ◌either◌
either_t b p = rw p

pub either_f : {a b r : Bool} → a ≡ false → b ≡ r → (a either b) ≡ r
unfolding ◌either◌
either_f p q = rw p q

pub either_fail : (a : Bool) {b : Bool} → b ≡ false → (a either b) ≡ a
unfolding ◌either◌
either_fail true p = refl
either_fail false p = p

pub any : {a b a' b' : Bool} → a ≡ a' → b ≡ b' → (a || b) ≡ (a' either b')
any {a} {b} p q = or_either a b ∙ λ i. p i either q i
  where
    or_either : (a b : Bool) → (a || b) ≡ (a either b)
    or_either true b = sym (either_t b refl)
    or_either false b = sym (either_f refl refl)

-- ---- choices
pub choose_t : {A : Type 0} {a : Bool} {x r : A} (y : A) → a ≡ true → x ≡ r → choose a x y ≡ r
unfolding choose
choose_t y p q = rw p q

pub choose_f : {A : Type 0} {a : Bool} {y r : A} (x : A) → a ≡ false → y ≡ r → choose a x y ≡ r
unfolding choose
choose_f x p q = rw p q

-- What holds of either thing holds of the chosen one.
pub if_choose : {A : Type 0} {x y : A} (P : A → Type 0) (t : Bool) → (t ≡ true → P x) → (t ≡ false → P y)
    → P (choose t x y)
unfolding choose
if_choose P true p q = p refl
if_choose P false p q = q refl

-- ---- a test whose answer is known, as an equation
pub choose-true : {A : Type 0} (x y : A) → choose true x y ≡ x
choose-true x y = choose_t y refl refl

pub choose-false : {A : Type 0} (x y : A) → choose false x y ≡ y
choose-false x y = choose_f x refl refl

pub also_true : (b : Bool) → (true also b) ≡ b
also_true b = also_t refl refl

pub also_false : (b : Bool) → (false also b) ≡ false
also_false b = also_f b refl

pub either_true : (b : Bool) → (true either b) ≡ true
either_true b = either_t b refl

pub either_false : (b : Bool) → (false either b) ≡ b
either_false b = either_f refl refl

-- With these `simp` works out what hangs on closed tests.
pub ruleset worked-out = (choose-true, choose-false, also_true, also_false, either_true, either_false)

-- ---- a call r that ensures r ≡ t, tested as r
pub is : {r t x : Bool} → r ≡ t → r ≡ x → t ≡ x
is p q = sym p ∙ q

-- ---- a call r that ensures r ≡ n, compared with a number
pub eq_of : {r n k : ℕ} → r ≡ n → r ≡ k → eqb n k ≡ true
eq_of {r} {n} {k} e h = eq-eqb n k (sym e ∙ h)

pub ne_of : {r n k : ℕ} → r ≡ n → (r ≡ k → ⊥) → eqb n k ≡ false
ne_of {r} {n} {k} e h = ne_eqb n k (λ q. h (e ∙ q))

pub zero_of : {r n : ℕ} → r ≡ n → r ≡ 0 → ltb 0 n ≡ false
zero_of {r} {n} e h = le-ltb 0 n (omega arith)

pub positive_of : {r n : ℕ} → r ≡ n → (r ≡ 0 → ⊥) → ltb 0 n ≡ true
positive_of {r} {n} e h = lt-ltb 0 n (omega arith)
