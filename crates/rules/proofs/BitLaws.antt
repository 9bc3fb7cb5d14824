-- Bits of an `or`, and of a power of two. Assumes nothing.
use Rattle.std.proofs.Common.{◌≡◌, ℕ, ◌+◌, ◌-◌, ◌*◌, ◌/◌, ◌%◌, ◌^◌, ◌<◌, max, true, eqb, List, length, get_or, set, sym, ap, ◌∙◌, one-mul, arith, lit<, length-set, get_or-set_other, get_or-set_same, pow-add, shl_exact, eq-eqb}
use native.Mathlib.Nat.{div-eq_of_lt, zero-div}
use lib.Bits.{bit_and, bit_or, and_mask, or_shr, or_step}
use lib.Pow.{shl-shr, pow-lt}
use lib.Seq.{set_out}
use Rattle.choice.proofs.Splitting.{if_eq, if_lt}
use Rattle.rules.specs.Table.{row_words, with_mark}
use Rattle.rules.specs.Marks.{bit_at, marked}

-- No bit of the code's mask is shifted out.
pub one_shifted : (j : ℕ) → j < 64 → 1 * 2 ^ j % 2 ^ 64 ≡ 2 ^ j
one_shifted j h = shl_exact 1 j 64 (lit< tt) (omega arith) ∙ one-mul (2 ^ j)

pub bit_at_lt : (v j : ℕ) → bit_at v j < 2
unfolding bit_at
bit_at_lt v j = omega arith

pub bit_at-and : (v j : ℕ) → bit_and (v / 2 ^ j) 1 ≡ bit_at v j
unfolding bit_at
bit_at-and v j = and_mask (v / 2 ^ j) 1

pub bit_at-or : (a b j : ℕ) → bit_at (bit_or a b) j ≡ max (bit_at a j) (bit_at b j)
unfolding bit_at
bit_at-or a b j =
    ap (λ (x : ℕ). x % 2) (or_shr a b j)
    ∙ digit (a / 2 ^ j) (b / 2 ^ j)
  where
    max-digit : (a b : ℕ) → a < 2 → b < 2 → max a b < 2
    max-digit a b h k = omega arith

    digit : (x y : ℕ) → bit_or x y % 2 ≡ max (x % 2) (y % 2)
    digit x y =
        let small = max-digit (x % 2) (y % 2) (omega arith) (omega arith) in
        omega (arith, or_step x y)

pub bit_at-pow-same : (j : ℕ) → bit_at (2 ^ j) j ≡ 1
unfolding bit_at
bit_at-pow-same j = ap (λ (x : ℕ). x / 2 ^ j % 2) (sym (one-mul (2 ^ j))) ∙ ap (λ (x : ℕ). x % 2) (shl-shr 1 j)

pub bit_at-pow_other : (i j : ℕ) → (i ≡ j → ⊥) → bit_at (2 ^ j) i ≡ 0
unfolding bit_at
bit_at-pow_other i j d = if_lt i j below (λ h. above (omega arith))
  where
    -- What is left of the power is even.
    below : i < j → 2 ^ j / 2 ^ i % 2 ≡ 0
    below h =
        let split : (j - i - 1) + 1 + i ≡ j = omega arith in
        let even : 2 ^ j ≡ 2 ^ (j - i - 1) * 2 * 2 ^ i =
        ap (λ (x : ℕ). 2 ^ x) (sym split) ∙ pow-add 2 (j - i - 1 + 1) i
        ∙ ap (λ (x : ℕ). x * 2 ^ i) (pow-add 2 (j - i - 1) 1) in
        ap (λ (x : ℕ). x / 2 ^ i % 2) even ∙ ap (λ (x : ℕ). x % 2) (shl-shr (2 ^ (j - i - 1) * 2) i) ∙ omega arith

    -- Nothing is left of it.
    above : j < i → 2 ^ j / 2 ^ i % 2 ≡ 0
    above h = ap (λ (x : ℕ). x % 2) (div-eq_of_lt (pow-lt h))

-- ---- one bit of a word set
pub bit_at-set-same : (v j : ℕ) → bit_at (bit_or v (2 ^ j)) j ≡ 1
bit_at-set-same v j = omega (arith, bit_at-or v (2 ^ j) j, bit_at-pow-same j, bit_at_lt v j)

pub bit_at-set_other : (v i j : ℕ) → (i ≡ j → ⊥) → bit_at (bit_or v (2 ^ j)) i ≡ bit_at v i
bit_at-set_other v i j d = omega (arith, bit_at-or v (2 ^ j) i, bit_at-pow_other i j d)

pub bit_at-zero : (j : ℕ) → bit_at 0 j ≡ 0
unfolding bit_at
bit_at-zero j = ap (λ (x : ℕ). x % 2) (zero-div (2 ^ j))

-- ---- one bit of a table set
-- A row ends where the next begins, so that a word and its bit tell row and bit.
apart : (j c i d : ℕ) → c < 8832 → d < 8832 → row_words * j + c / 64 ≡ row_words * i + d / 64 → c % 64 ≡ d % 64
    → (j ≡ i) × (c ≡ d)
apart j c i d h l word bit = (omega arith, omega arith)

module _ (t : List ℕ) (j c : ℕ) where
  pub length-with_mark : length (with_mark t j c) ≡ length t
  unfolding with_mark
  length-with_mark = simp length-set

  pub marked-same : row_words * j + c / 64 < length t → marked (with_mark t j c) j c ≡ true
  unfolding marked with_mark
  marked-same h =
      eq-eqb _ 1
      (ap (λ (v : ℕ). bit_at v (c % 64)) (get_or-set_same t (row_words * j + c / 64) _ 0 h)
      ∙ bit_at-set-same (get_or t (row_words * j + c / 64) 0) (c % 64))

  pub marked_other : (i d : ℕ) → c < 8832 → d < 8832 → ((i ≡ j) → (d ≡ c) → ⊥) → marked (with_mark t j c) i d ≡ marked t i d
  unfolding marked with_mark
  marked_other i d h l other =
      ap (λ (b : ℕ). eqb b 1)
      (kept (row_words * j + c / 64) (c % 64) (row_words * i + d / 64) (d % 64)
      (λ word bit. let same = apart i d j c l h word bit in other same.0 same.1))
    where
      kept : (w b v a : ℕ) → ((v ≡ w) → (a ≡ b) → ⊥)
          → bit_at (get_or (set t w (bit_or (get_or t w 0) (2 ^ b))) v 0) a ≡ bit_at (get_or t v 0) a
      kept w b v a other =
          if_eq v w
          (λ e. if_lt w (length t)
          (λ h. ap (λ (x : ℕ). bit_at (get_or (set t w (bit_or (get_or t w 0) (2 ^ b))) x 0) a) e
          ∙ ap (λ (x : ℕ). bit_at x a) (get_or-set_same t w _ 0 h)
          ∙ bit_at-set_other (get_or t w 0) a b (other e)
          ∙ ap (λ (x : ℕ). bit_at (get_or t x 0) a) (sym e))
          (λ h. ap (λ (l : List ℕ). bit_at (get_or l v 0) a) (set_out t w _ h)))
          (λ e. ap (λ (x : ℕ). bit_at x a) (get_or-set_other t w v _ 0 e))
