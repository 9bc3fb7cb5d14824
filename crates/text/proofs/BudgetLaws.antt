-- Digits read one by one say the budget that they say together, and a number's own digits say the
-- number. Assumes nothing.
use Prim.Native.Nat.{ℕ, zero, suc, ◌+◌, ◌-◌, ◌*◌, ◌/◌, ◌%◌, ◌^◌, ◌<◌, ◌≤◌}
use mathlib.Core.Bool.{Bool, true, false}
use mathlib.Core.List.{List, [], ◌∷◌, ◌++◌}
use mathlib.Core.Path.{◌≡◌, refl, sym, ap, subst, ◌∙◌}
use native.Mathlib.Nat.{pow-suc}
use native.Mathlib.Omega.{arith}
use lib.Dec.{leb}
use lib.ListN.{length, get_or, drop, length-append, drop_of_length-le}
use lib.Seq.{drop-cons}
use borrow.Author.Tests.{le-leb, lt-leb}
use Rattle.choice.specs.Tests.{choose, ◌also◌}
use Rattle.choice.proofs.Splitting.{if_test, if_lt}
use Rattle.choice.proofs.TestsLaws.{also_t, also_f, also_l, also_r, choose_t, choose_f}
use Rattle.std.specs.Prelude.{Option, Some, None}
use Rattle.std.specs.Char.{is_ascii_digit}
use Rattle.text.specs.Words.{digit, decimal}
use Rattle.text.specs.Budget.{highest, is_digit, all_digits, value_from, value_of, budget_in}
use Rattle.text.proofs.WordsLaws.{decimal-few, decimal_many}

-- ---- a digit
is_digit-digit : (d : ℕ) → d < 10 → is_digit (digit d) ≡ true
unfolding is_digit
is_digit-digit d l = also_t (le-leb 48 (48 + d) (omega arith)) (le-leb (48 + d) 57 (omega arith))

-- The same as of std.
pub is_digit-ascii : (b : ℕ) → is_ascii_digit b ≡ is_digit b
unfolding is_digit
is_digit-ascii b =
    if_test (leb 48 b)
    (λ e. rw e (sym (also_t refl refl)))
    (λ e. rw e (sym (also_f (leb b 57) refl)))

-- ---- what is left: the budget that the digits of v and then those of w say
unfoldable pub budget_from : ℕ → List ℕ → Option ℕ
budget_from v w = choose (all_digits w also leb (value_from v w) highest) (Some (value_from v w)) None

pub budget_in-nil : (w : List ℕ) → length w ≡ 0 → None ≡ budget_in w
unfolding budget_in
budget_in-nil w z =
    sym (choose_f _ (none w z) refl)
  where
    none : (w : List ℕ) → length w ≡ 0 → (leb 1 (length w) also all_digits w also leb (value_of w) highest) ≡ false
    none w z = also_f (leb (value_of w) highest) (also_f (all_digits w) (lt-leb 1 (length w) (omega arith)))

pub budget_in_some : (w : List ℕ) → 1 ≤ length w → budget_from 0 w ≡ budget_in w
unfolding budget_in budget_from
budget_in_some w l =
    sym (ap (λ (t : Bool). choose (t also leb (value_of w) highest) (Some (value_of w)) None)
    (also_t (le-leb 1 (length w) l) refl))

-- The byte at i is next.
module _ {x : Option ℕ} (v : ℕ) (w : List ℕ) (i : ℕ) (there : i < length w) (whole : budget_from v (drop i w) ≡ x) where
  next : budget_from v (get_or w i 0 ∷ drop (i + 1) w) ≡ x
  next =
      let after : suc i ≡ i + 1 = omega arith in
      ap (budget_from v) (sym (drop-cons w i 0 there ∙ ap (λ (j : ℕ). get_or w i 0 ∷ drop j w) after))
      ∙ whole

  pub budget_from_digit : is_digit (get_or w i 0) ≡ true → budget_from (v * 10 + (get_or w i 0 - 48)) (drop (i + 1) w) ≡ x
  unfolding budget_from all_digits value_from
  budget_from_digit h =
      let value = value_from (v * 10 + (get_or w i 0 - 48)) (drop (i + 1) w) in
      sym (ap (λ (t : Bool). choose (t also leb value highest) (Some value) None) (also_t h refl))
      ∙ next

  pub budget_from_other : is_digit (get_or w i 0) ≡ false → None ≡ x
  unfolding budget_from all_digits
  budget_from_other h = sym (choose_f _ (also_f _ (also_f (all_digits (drop (i + 1) w)) h)) refl) ∙ next

value_from-le : (v : ℕ) (w : List ℕ) → v ≤ value_from v w
unfolding value_from
value_from-le v [] = omega arith
value_from-le v (b ∷ w) = omega (arith, value_from-le (v * 10 + (b - 48)) w)

pub budget_from_above : {x : Option ℕ} (v : ℕ) (w : List ℕ) → budget_from v w ≡ x → highest < v → None ≡ x
unfolding budget_from
budget_from_above v w whole l =
    let above : leb (value_from v w) highest ≡ false = lt-leb (value_from v w) highest (omega (arith, value_from-le v w)) in
    sym (choose_f _ (last (all_digits w) above) refl) ∙ whole
  where
    last : (a : Bool) {b : Bool} → b ≡ false → (a also b) ≡ false
    last true e = also_t refl e
    last false {b} e = also_f b refl

pub budget_from_end : {x : Option ℕ} (v : ℕ) (w : List ℕ) (i : ℕ) → length w ≤ i → budget_from v (drop i w) ≡ x
    → v ≤ highest → Some v ≡ x
unfolding budget_from all_digits value_from
budget_from_end v w i all whole l =
    sym (choose_t None (also_t refl (le-leb v highest l)) refl)
    ∙ ap (budget_from v) (sym (drop_of_length-le w {i = i} all))
    ∙ whole

-- ---- the digits of a number
all_digits_snoc : (w : List ℕ) (b : ℕ) → all_digits w ≡ true → is_digit b ≡ true → all_digits (w ++ b ∷ []) ≡ true
unfolding all_digits
all_digits_snoc [] b p q = also_t q refl
all_digits_snoc (c ∷ w) b p q =
    also_t (also_l (is_digit c) (all_digits w) p) (all_digits_snoc w b (also_r (is_digit c) (all_digits w) p) q)

value_from_snoc : (v : ℕ) (w : List ℕ) (b : ℕ) → value_from v (w ++ b ∷ []) ≡ value_from v w * 10 + (b - 48)
unfolding value_from
value_from_snoc v [] b = refl
value_from_snoc v (c ∷ w) b = value_from_snoc (v * 10 + (c - 48)) w b

record Says (w : List ℕ) (n : ℕ) : Type 0 where
  pub some : 1 ≤ length w
  pub digits : all_digits w ≡ true
  pub value : value_of w ≡ n

says_few : (n : ℕ) → n < 10 → Says (digit n ∷ []) n
unfolding all_digits value_from
says_few n l = record {
  some = omega arith;
  digits = also_t (is_digit-digit n l) refl;
  value = omega arith;
}

says_many : (w : List ℕ) (n : ℕ) → Says w (n / 10) → Says (w ++ digit (n % 10) ∷ []) n
says_many w n s = record {
  some = omega (arith, length-append w (digit (n % 10) ∷ []));
  digits = all_digits_snoc w (digit (n % 10)) s.digits (is_digit-digit (n % 10) (omega arith));
  value = omega (arith, value_from_snoc 0 w (digit (n % 10)), s.value);
}

says_decimal : (f n : ℕ) → n < 10 ^ f → n < 2 ^ 64 → Says (decimal n) n
says_decimal zero n l h = subst (λ (w : List ℕ). Says w n) (sym (decimal-few n (omega arith))) (says_few n (omega arith))
says_decimal (suc f) n l h =
    if_lt n 10
    (λ few. subst (λ (w : List ℕ). Says w n) (sym (decimal-few n few)) (says_few n few))
    (λ many.
    subst (λ (w : List ℕ). Says w n) (sym (decimal_many n many h))
    (says_many (decimal (n / 10)) n (says_decimal f (n / 10) (omega (arith, pow-suc 10 f)) (omega arith))))

-- A budget written in decimal is read as the same budget.
pub budget_in-decimal : (b : ℕ) → b ≤ highest → budget_in (decimal b) ≡ Some b
unfolding budget_in
budget_in-decimal b l =
    let says = says_decimal 10 b (omega arith) (omega arith) in
    let low : leb (value_of (decimal b)) highest ≡ true = le-leb (value_of (decimal b)) highest (omega (arith, says.value)) in
    choose_t None (also_t (also_t (le-leb 1 _ says.some) says.digits) low) (ap Some says.value)
