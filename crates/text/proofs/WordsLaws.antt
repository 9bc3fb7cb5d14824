-- A number's decimal digits say the number, and are few. Assumes nothing.
use Prim.Native.Nat.{ℕ, zero, suc, ◌+◌, ◌/◌, ◌%◌, ◌^◌, ◌<◌, ◌≤◌}
use mathlib.Core.Bool.{Bool}
use mathlib.Core.List.{List, [], ◌∷◌, ◌++◌}
use mathlib.Core.Path.{◌≡◌, refl, sym, ap, subst, ◌∙◌}
use native.Mathlib.Nat.{pow-suc, le_refl, le_trans}
use native.Mathlib.Omega.{arith}
use lib.ListN.{length, length-append}
use borrow.Author.Tests.{lt-ltb, le-ltb}
use Rattle.choice.specs.Tests.{choose}
use Rattle.choice.proofs.Splitting.{if_test, if_lt}
use Rattle.choice.proofs.TestsLaws.{choose_t, choose_f}
use Rattle.text.specs.Words.{newline, digit, digits, decimal, field, line}

-- ---- one digit more
digits-few : (k n : ℕ) → n < 10 → digits (suc k) n ≡ digit n ∷ []
unfolding digits
digits-few k n l = choose_t _ (lt-ltb n 10 l) refl

digits_many : (k n : ℕ) → 10 ≤ n → digits (suc k) n ≡ digits k (n / 10) ++ digit (n % 10) ∷ []
unfolding digits
digits_many k n l = choose_f _ (le-ltb n 10 l) refl

-- Room for more digits than there are changes nothing.
digits_room : (k n : ℕ) → n < 10 ^ suc k → digits (suc k) n ≡ digits (suc (suc k)) n
digits_room zero n l = digits-few 0 n (omega arith) ∙ sym (digits-few 1 n (omega arith))
digits_room (suc k) n l =
    if_lt n 10
    (λ few. digits-few (suc k) n few ∙ sym (digits-few (suc (suc k)) n few))
    (λ many.
    digits_many (suc k) n many
    ∙ ap (λ (w : List ℕ). w ++ digit (n % 10) ∷ []) (digits_room k (n / 10) (omega (arith, pow-suc 10 (suc k))))
    ∙ sym (digits_many (suc (suc k)) n many))

pub decimal-few : (n : ℕ) → n < 10 → decimal n ≡ digit n ∷ []
unfolding decimal
decimal-few n l = digits-few 19 n l

pub decimal_many : (n : ℕ) → 10 ≤ n → n < 2 ^ 64 → decimal n ≡ decimal (n / 10) ++ digit (n % 10) ∷ []
unfolding decimal
decimal_many n l h =
    digits_many 19 n l
    ∙ ap (λ (w : List ℕ). w ++ digit (n % 10) ∷ []) (digits_room 18 (n / 10) (omega arith))

-- ---- how many there are
digits_le : (k n : ℕ) → length (digits k n) ≤ k
unfolding digits
digits_le zero n = omega arith
digits_le (suc k) n =
    if_lt n 10
    (λ few. omega (arith, ap length (digits-few k n few)))
    (λ many.
    let split = ap length (digits_many k n many) ∙ length-append (digits k (n / 10)) (digit (n % 10) ∷ []) in
    omega (arith, split, digits_le k (n / 10)))

decimal-le : (n : ℕ) → length (decimal n) ≤ 20
unfolding decimal
decimal-le n = digits_le 20 n

-- ---- how long a text is at most
pub record AtMost (m : ℕ) (t : List ℕ) : Type 0 where
  pub le : length t ≤ m

pub append-le : {s t : List ℕ} {m n : ℕ} → AtMost m s → AtMost n t → AtMost (m + n) (s ++ t)
append-le {s} {t} a b = let l = a.le in let h = b.le in record { le = omega (arith, length-append s t) }

pub choose-le : (c : Bool) {s t : List ℕ} {m : ℕ} → AtMost m s → AtMost m t → AtMost m (choose c s t)
choose-le c {s} {t} {m} a b =
    if_test c
    (λ e. subst (AtMost m) (sym (choose_t t e refl)) a)
    (λ e. subst (AtMost m) (sym (choose_f s e refl)) b)

pub word-le : (s : List ℕ) → AtMost (length s) s
word-le s = record { le = le_refl _ }

pub field-le : (s : List ℕ) (n : ℕ) → AtMost (length s + 20) (field s n)
field-le s n = append-le (word-le s) (record { le = decimal-le n })

pub line-le : (s : List ℕ) (n : ℕ) → AtMost (length s + 20 + 1) (line s n)
line-le s n = append-le (field-le s n) (word-le newline)

pub wider : {m n : ℕ} {t : List ℕ} → AtMost m t → m ≤ n → AtMost n t
wider a h = record { le = le_trans a.le h }
