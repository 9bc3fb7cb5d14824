-- Which bit of a row an hour or a month has: it is in the row, and no two have the same. Assumes nothing.
use Rattle.std.proofs.Common.{◌≡◌, ℕ, ◌+◌, ◌-◌, ◌*◌, ◌/◌, ◌<◌, ◌≤◌, true, false, eqb, refl, arith, eq-eqb, ne_eqb, eqb-true, le-leb, leb-true}
use borrow.Author.Tests.{eqb-false}
use Rattle.choice.proofs.Splitting.{if_test}
use Rattle.choice.proofs.TestsLaws.{also_t, also_l, also_r, choose_t, choose_f}
use Rattle.rules.specs.Table.{row_words, last_period, has_bit, bit_of}

-- ---- kind by kind
last_period-hour : (k : ℕ) → k ≡ 2 → last_period k ≡ 8784
unfolding last_period
last_period-hour k e = choose_t _ (eq-eqb k 2 e) refl

last_period-month : (k : ℕ) → k ≡ 4 → last_period k ≡ 12
unfolding last_period
last_period-month k e = choose_f _ (ne_eqb k 2 (λ h. omega arith)) (choose_t _ (eq-eqb k 4 e) refl)

last_period_other : (k : ℕ) → (k ≡ 2 → ⊥) → (k ≡ 4 → ⊥) → last_period k ≡ 0
unfolding last_period
last_period_other k a b = choose_f _ (ne_eqb k 2 a) (choose_f _ (ne_eqb k 4 b) refl)

pub bit_of-hour : (k w : ℕ) → k ≡ 2 → bit_of k w ≡ w - 1
unfolding bit_of
bit_of-hour k w e = choose_f _ (ne_eqb k 4 (λ h. omega arith)) refl

pub bit_of-month : (k w : ℕ) → k ≡ 4 → bit_of k w ≡ 8784 + w - 1
unfolding bit_of
bit_of-month k w e = choose_t _ (eq-eqb k 4 e) refl

-- ---- what has a bit
-- What a record's test of ranges says of its bit.
pub has_bit-hour : (k w : ℕ) → k ≡ 2 → 1 ≤ w → w ≤ 8784 → has_bit k w ≡ true
unfolding has_bit
has_bit-hour k w e first last = also_t (le-leb 1 w first) (le-leb w _ (omega (arith, last_period-hour k e)))

pub has_bit-month : (k w : ℕ) → k ≡ 4 → 1 ≤ w → w ≤ 12 → has_bit k w ≡ true
unfolding has_bit
has_bit-month k w e first last = also_t (le-leb 1 w first) (le-leb w _ (omega (arith, last_period-month k e)))

-- Any statement on what has a bit is proved of hours and of months.
if_has_bit : {G : Type 0} (k w : ℕ) → has_bit k w ≡ true → (k ≡ 2 → 1 ≤ w → w ≤ 8784 → bit_of k w ≡ w - 1 → G)
    → (k ≡ 4 → 1 ≤ w → w ≤ 12 → bit_of k w ≡ 8784 + w - 1 → G) → G
unfolding has_bit
if_has_bit k w h hour month =
    let first = leb-true 1 w (also_l _ _ h) in
    let last = leb-true w (last_period k) (also_r _ _ h) in
    if_test (eqb k 2)
    (λ t. let e = eqb-true k 2 t in hour e first (omega (arith, last, last_period-hour k e)) (bit_of-hour k w e))
    (λ f. if_test (eqb k 4)
    (λ t. let e = eqb-true k 4 t in month e first (omega (arith, last, last_period-month k e)) (bit_of-month k w e))
    (λ g. absurd (omega (arith, first, last, last_period_other k (eqb-false k 2 f) (eqb-false k 4 g)))))

-- No other record has one.
pub has_bit_other : (k w : ℕ) → (k ≡ 2 → ⊥) → (k ≡ 4 → ⊥) → has_bit k w ≡ false
has_bit_other k w no_hour no_anodes =
    if_test (has_bit k w)
    (λ h. absurd (if_has_bit k w h (λ e a b q. no_hour e) (λ e a b q. no_anodes e)))
    (λ none. none)

pub has_bit-first : (k w : ℕ) → has_bit k w ≡ true → 1 ≤ w
has_bit-first k w h = if_has_bit k w h (λ e a b q. a) (λ e a b q. a)

pub has_bit_last : (k w : ℕ) → has_bit k w ≡ true → w ≤ 8784
has_bit_last k w h = if_has_bit k w h (λ e a b q. b) (λ e a b q. omega arith)

pub bit_of-lt : (k w : ℕ) → has_bit k w ≡ true → bit_of k w < 8832
bit_of-lt k w h = if_has_bit k w h (λ e a b q. omega arith) (λ e a b q. omega arith)

-- The same bit is the same kind and the same period.
pub record Same (k w m v : ℕ) : Type 0 where
  pub kind_is : m ≡ k
  pub period_is : v ≡ w

pub bit_of_inj : (k w m v : ℕ) → has_bit k w ≡ true → has_bit m v ≡ true → bit_of m v ≡ bit_of k w → Same k w m v
bit_of_inj k w m v h g same =
    if_has_bit k w h
    (λ e a b q. if_has_bit m v g
    (λ f c d p. record { kind_is = omega arith; period_is = omega arith })
    (λ f c d p. absurd (omega arith)))
    (λ e a b q. if_has_bit m v g
    (λ f c d p. absurd (omega arith))
    (λ f c d p. record { kind_is = omega arith; period_is = omega arith }))

-- The bits of row j are there.
pub row_there : (u n j c : ℕ) → row_words * u ≤ n → j < u → c < 8832 → row_words * j + c / 64 < n
row_there u n j c h l m = omega arith
