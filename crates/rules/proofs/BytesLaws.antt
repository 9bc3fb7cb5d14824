-- Words by their bytes and by their parts, the bytes of a part and of a number, and lines one by one.
-- Assumes nothing.
use Rattle.std.proofs.Common.{◌≡◌, ℕ, zero, suc, ◌+◌, ◌-◌, ◌*◌, ◌/◌, ◌%◌, ◌^◌, ◌<◌, ◌≤◌, Bool, false, eqb, List, [], ◌∷◌, ◌++◌, length, take, drop, sym, refl, ap, ◌∙◌, subst, ap₂, zero-le, lt_of_lt_of_le, mul-le-mul_right, mul_assoc, mul-le-mul_left, one-mul, mul-zero, zero-add, mul-suc, div-one, add-one, arith, lit<, length-take, get_or-drop, drop-cons, get_or-take, drop-drop, pow-add, eq-eqb, ne_eqb, get_or}
use native.Mathlib.Nat.{sub-zero, div-div-eq-div-mul, pow-suc, pow-succ', pow-le-pow_right}
use lib.Bits.{bit_or, or_add_and, and_le_l, and_le_r}
use lib.ListN.{get_or-eq_default}
use Rattle.std.specs.Int.{bytes_low_first}
use Rattle.std.specs.Simd.{first_chunks}
use Rattle.choice.specs.Tests.{◌also◌}
use Rattle.choice.proofs.Splitting.{if_eq, if_lt}
use Rattle.choice.proofs.TestsLaws.{also_t, also_f, also_pass, also_fail}
use Rattle.rules.specs.Bytes.{byte, word, part, zeros, bytes_of, line, lines}

-- ---- reading a word from its last byte down
module _ (s : List ℕ) (at n : ℕ) where
  pub word_none : (0 ≡ word s (at + n) (n - n)) × (0 < 256 ^ (n - n))
  unfolding word
  word_none = let none : n - n ≡ 0 = omega arith in rw none (refl, lit< tt)

  module _ (i : ℕ) (some : 0 < i) (left : i ≤ n) where
    longer : word s (at + (i - 1)) (n - (i - 1)) ≡ byte s (at + (i - 1)) + 256 * word s (at + i) (n - i)
    unfolding word
    longer =
        let length : n - (i - 1) ≡ suc (n - i) = omega arith in
        let next : at + (i - 1) + 1 ≡ at + i = omega arith in
        rw (length, next)

    wider : 256 ^ (n - (i - 1)) ≡ 256 * 256 ^ (n - i)
    wider =
        let length : n - (i - 1) ≡ 1 + (n - i) = omega arith in
        ap (λ (k : ℕ). 256 ^ k) length ∙ pow-add 256 1 (n - i)

    -- A byte b more, below the word v.
    pub word_next : (v b : ℕ) → v ≡ word s (at + i) (n - i) → v < 256 ^ (n - i) → b ≡ byte s (at + (i - 1))
        → b < 256 →
        (v * 256 + b ≡ word s (at + (i - 1)) (n - (i - 1))) × (v * 256 + b < 256 ^ (n - (i - 1)))
    word_next v b e l d m = (omega (arith, longer), omega (arith, wider))

    pub word_room : (v : ℕ) → n ≤ 8 → v < 256 ^ (n - i) → v < 256 ^ 7
    word_room v few l =
        let short : n - i ≤ 7 = omega arith in
        lt_of_lt_of_le l (pow-le-pow_right {n = 256} (lit< tt) short)

-- ---- a word from its first byte up
pub word-zero : (l : List ℕ) (k : ℕ) → word l k 0 ≡ 0
unfolding word
word-zero l k = refl

pub word-suc : (l : List ℕ) (k n : ℕ) → word l k (suc n) ≡ byte l k + 256 * word l (k + 1) n
unfolding word
word-suc l k n = refl

pub word_one : (l : List ℕ) (k : ℕ) → word l k 1 ≡ byte l k
unfolding word
word_one l k = omega arith

pub word_same : (l m : List ℕ) (k n : ℕ) → ((i : ℕ) → k ≤ i → i < k + n → byte l i ≡ byte m i) → word l k n ≡ word m k n
unfolding word
word_same l m k zero same = refl
word_same l m k (suc n) same =
    let here = same k (omega arith) (omega arith) in
    let rest = word_same l m (k + 1) n (λ i h j. same i (omega arith) (omega arith)) in
    λ i. here i + 256 * rest i

pub word-two-lt : (l : List ℕ) (k : ℕ) → ((i : ℕ) → byte l i < 256) → word l k 2 < 65536
unfolding word
word-two-lt l k small = omega (arith, small k, small (k + 1))

-- ---- the bytes of a part
pub byte-part : (a e : ℕ) (s : List ℕ) (i : ℕ) → a + i < e → byte (part a e s) i ≡ byte s (a + i)
byte-part a e s i l = get_or-take (e - a) (drop a s) i 0 (omega arith) ∙ get_or-drop a s i 0

pub byte-part-lt : (a e : ℕ) (s : List ℕ) → ((i : ℕ) → byte s i < 256) → (i : ℕ) → byte (part a e s) i < 256
byte-part-lt a e s small i =
    if_lt (a + i) e
    (λ within. omega (arith, byte-part a e s i within, small (a + i)))
    (λ past.
    let short : length (part a e s) ≤ i = omega (arith, length-take (e - a) (drop a s)) in
    let none : byte (part a e s) i ≡ 0 = get_or-eq_default (part a e s) 0 short in
    omega arith)

-- ---- what stands before a word or behind it makes no difference
pub word-nil : (k n : ℕ) → word [] k n ≡ 0
unfolding word
word-nil k zero = refl
word-nil k (suc n) = omega (arith, word-nil (k + 1) n)

pub word-cons : (b : ℕ) (l : List ℕ) (k n : ℕ) → word (b ∷ l) (suc k) n ≡ word l k n
unfolding word
word-cons b l k zero = refl
word-cons b l k (suc n) =
    let next : suc k + 1 ≡ suc (k + 1) = omega arith in
    ap (λ (v : ℕ). byte l k + 256 * v) (ap (λ (j : ℕ). word (b ∷ l) j n) next ∙ word-cons b l (k + 1) n)

pub word-drop : (l : List ℕ) (k n : ℕ) → word (drop k l) 0 n ≡ word l k n
word-drop l zero n = refl
word-drop [] (suc k) n = word-nil 0 n ∙ sym (word-nil (suc k) n)
word-drop (b ∷ l) (suc k) n = word-drop l k n ∙ sym (word-cons b l k n)

pub word-take : (l : List ℕ) (n : ℕ) → word (take n l) 0 n ≡ word l 0 n
unfolding word
word-take l zero = refl
word-take [] (suc n) = refl
word-take (b ∷ l) (suc n) =
    ap (λ (v : ℕ). b + 256 * v) (word-cons b (take n l) 0 n ∙ word-take l n ∙ sym (word-cons b l 0 n))

-- ---- the bytes of a number
pub bytes_of_zero : (v : ℕ) → bytes_of 0 v ≡ []
unfolding bytes_of
bytes_of_zero v = refl

pub bytes_of_suc : (n v : ℕ) → bytes_of (suc n) v ≡ v % 256 ∷ bytes_of n (v / 256)
unfolding bytes_of
bytes_of_suc n v = refl

pub length-bytes_of : (n v : ℕ) → length (bytes_of n v) ≡ n
unfolding bytes_of
length-bytes_of zero v = refl
length-bytes_of (suc n) v = ap suc (length-bytes_of n (v / 256))

pub word-bytes_of : (n v : ℕ) → v < 256 ^ n → word (bytes_of n v) 0 n ≡ v
unfolding bytes_of
word-bytes_of zero v h = word-zero _ 0 ∙ omega arith
word-bytes_of (suc n) v h =
    word-suc _ 0 n
    ∙ ap (λ (w : ℕ). v % 256 + 256 * w) (word-cons (v % 256) (bytes_of n (v / 256)) 0 n)
    ∙ omega (arith, word-bytes_of n (v / 256) (omega arith))

-- A number of m bytes and one of n behind it are one number.
pub bytes_of-add : (m n a b : ℕ) → a < 256 ^ m → bytes_of (m + n) (a + 256 ^ m * b) ≡ bytes_of m a ++ bytes_of n b
unfolding bytes_of
bytes_of-add zero n a b l =
    let alone : 0 + n ≡ n = omega arith in
    let high : a + 256 ^ 0 * b ≡ b = omega arith in
    ap₂ bytes_of alone high
bytes_of-add (suc m) n a b l =
    let longer : suc m + n ≡ suc (m + n) = omega arith in
    let wider = pow-succ' 256 m in
    let whole : a + 256 ^ suc m * b ≡ a + 256 * (256 ^ m * b) = rw wider (ap (λ (v : ℕ). a + v) (mul_assoc 256 (256 ^ m) b)) in
    let low : (a + 256 * (256 ^ m * b)) % 256 ≡ a % 256 = omega arith in
    let high : (a + 256 * (256 ^ m * b)) / 256 ≡ a / 256 + 256 ^ m * b = omega arith in
    ap₂ bytes_of longer whole
    ∙ ap₂ ◌∷◌ low (ap (bytes_of (m + n)) high ∙ bytes_of-add m n (a / 256) b (omega arith))

pub bytes_of-word : (c : List ℕ) (k n : ℕ) → ((i : ℕ) → byte c i < 256) → k + n ≤ length c
    → bytes_of n (word c k n) ≡ take n (drop k c)
unfolding bytes_of
bytes_of-word c k zero b l = refl
bytes_of-word c k (suc n) b l =
    let low : word c k (suc n) % 256 ≡ byte c k = omega (arith, word-suc c k n, b k) in
    let high : word c k (suc n) / 256 ≡ word c (k + 1) n = omega (arith, word-suc c k n, b k) in
    let next : suc k ≡ k + 1 = omega arith in
    let here = drop-cons c k 0 (omega arith) ∙ ap (λ (j : ℕ). byte c k ∷ drop j c) next in
    ap₂ ◌∷◌ low (ap (bytes_of n) high ∙ bytes_of-word c (k + 1) n b (omega arith))
    ∙ ap (take (suc n)) (sym here)

-- ---- words by their parts
pub word-add : (l : List ℕ) (k m n : ℕ) → word l k (m + n) ≡ word l k m + 256 ^ m * word l (k + m) n
unfolding word
word-add l k zero n =
    let here : k + 0 ≡ k = omega arith in
    let alone : 0 + n ≡ n = omega arith in
    ap (word l k) alone ∙ sym (zero-add _ ∙ one-mul _ ∙ ap (λ (j : ℕ). word l j n) here)
word-add l k (suc m) n =
    let place : k + 1 + m ≡ k + suc m = omega arith in
    let longer : suc m + n ≡ suc (m + n) = omega arith in
    let higher : 256 ^ suc m ≡ 256 * 256 ^ m = ap (λ (j : ℕ). 256 ^ j) (sym (one_more m)) ∙ pow-add 256 1 m in
    let rest : word l (k + 1) (m + n) ≡ word l (k + 1) m + 256 ^ m * word l (k + suc m) n =
    word-add l (k + 1) m n ∙ ap (λ (j : ℕ). word l (k + 1) m + 256 ^ m * word l j n) place in
    rw (longer, higher) (omega (arith, mul_assoc 256 (256 ^ m) (word l (k + suc m) n)))
  where
    one_more : (m : ℕ) → 1 + m ≡ suc m
    one_more m = omega arith

-- The w bytes from k on are m, and n from j on.
pub word_parts : (l : List ℕ) (k m j n w : ℕ) → k + m ≡ j → m + n ≡ w → word l k w ≡ word l k m + 256 ^ m * word l j n
word_parts l k m j n w p q =
    ap (word l k) (sym q) ∙ word-add l k m n ∙ ap (λ (i : ℕ). word l k m + 256 ^ m * word l i n) p

-- Twice as many bytes are a low half and a high half.
pub word_halves : (l : List ℕ) (k n low high : ℕ) → low ≡ word l k n → high ≡ word l (k + n) n → low < 256 ^ n → high < 256 ^ n
    → (low + 256 ^ n * high ≡ word l k (n + n)) × (low + 256 ^ n * high < 256 ^ (n + n))
word_halves l k n low high p q h j =
    let rises = mul-le-mul_left (256 ^ n) j in
    ((λ i. p i + 256 ^ n * q i) ∙ sym (word-add l k n n), omega (arith, mul-suc (256 ^ n) high, pow-add 256 n n))

-- What is known of a word of m bytes is known of one of n, if n is m.
pub word_width : (l : List ℕ) (k m n v : ℕ) → n ≡ m → (v ≡ word l k m) × (v < 256 ^ m) →
    (v ≡ word l k n) × (v < 256 ^ n)
word_width l k m n v e h = subst (λ (w : ℕ). (v ≡ word l k w) × (v < 256 ^ w)) (sym e) h

-- ---- zeros
-- A number that is 0 exactly if two others are is tested by testing both.
both_zero : (low high whole : ℕ) → (low ≡ 0 → high ≡ 0 → whole ≡ 0) → (whole ≡ 0 → (low ≡ 0) × (high ≡ 0))
    → eqb whole 0 ≡ (eqb low 0 also eqb high 0)
both_zero low high whole join part =
    if_eq low 0
    (λ z. if_eq high 0
    (λ y. eq-eqb whole 0 (join z y) ∙ sym (also_t (eq-eqb low 0 z) (eq-eqb high 0 y)))
    (λ y. ne_eqb whole 0 (λ w. y (part w).1) ∙ sym (also_t (eq-eqb low 0 z) (ne_eqb high 0 y))))
    (λ z. ne_eqb whole 0 (λ w. z (part w).0) ∙ sym (also_f (eqb high 0) (ne_eqb low 0 z)))

-- The bits of two words together are 0 exactly if both words are.
pub zero_or : (a b : ℕ) → eqb (bit_or a b) 0 ≡ (eqb a 0 also eqb b 0)
zero_or a b =
    let sum = or_add_and a b in
    let low = and_le_l a b in
    let high = and_le_r a b in
    both_zero a b (bit_or a b) (λ z y. omega arith) (λ w. omega arith)

-- A row of w bytes from k on is 0 exactly if both of its parts are: m bytes from k on, and n from j on.
pub zeros-split : (l : List ℕ) (k m j n w : ℕ) → k + m ≡ j → m + n ≡ w
    → zeros l k w ≡ (zeros l k m also zeros l j n)
zeros-split l k m j n w p q =
    let sum = word_parts l k m j n w p q in
    let above : 1 ≤ 256 ^ m = pow-le-pow_right {n = 256} (lit< tt) {i = 0} {j = m} zero-le in
    let rises = mul-le-mul_right (word l j n) above in
    both_zero (word l k m) (word l j n) (word l k w)
    (λ z y. let none = ap (λ (x : ℕ). 256 ^ m * x) y ∙ mul-zero (256 ^ m) in omega arith)
    (λ v. omega arith)

-- A number of m bytes and n bytes behind it that must be 0 are tested as one word, by a test that fails for what m
-- bytes can't hold.
pub word_wide : (P : ℕ → Bool) (l : List ℕ) (k m j n w : ℕ) → k + m ≡ j → m + n ≡ w
    → ((x : ℕ) → 256 ^ m ≤ x → P x ≡ false) → P (word l k w) ≡ (P (word l k m) also zeros l j n)
word_wide P l k m j n w p q past =
    let sum = word_parts l k m j n w p q in
    if_eq (word l j n) 0
    (λ z.
    let none = ap (λ (x : ℕ). 256 ^ m * x) z ∙ mul-zero (256 ^ m) in
    let same : word l k w ≡ word l k m = omega arith in
    ap P same ∙ sym (also_pass (P (word l k m)) (eq-eqb (word l j n) 0 z)))
    (λ z.
    let some : 1 ≤ word l j n = omega arith in
    let rises = mul-le-mul_left (256 ^ m) some in
    past (word l k w) (omega arith) ∙ sym (also_fail (P (word l k m)) (ne_eqb (word l j n) 0 z)))

-- ---- what is left of a number
div_bytes : (v i : ℕ) → v / 256 ^ i / 256 ≡ v / 256 ^ suc i
div_bytes v i = div-div-eq-div-mul v (256 ^ i) 256 ∙ ap (λ (m : ℕ). v / m) (sym (pow-suc 256 i))

-- ---- the bytes of a number as Rattle's library has them
low_from : (i k v : ℕ) → bytes_low_first i k v ≡ bytes_of k (v / 256 ^ i)
unfolding bytes_of
low_from i zero v = refl
low_from zero (suc k) v = ap₂ ◌∷◌ (ap (λ (m : ℕ). m % 256) (sym (div-one v))) (low_from 1 k v ∙ ap (bytes_of k) (sym (div_bytes v 0)))
low_from (suc i) (suc k) v =
    ap (λ (l : List ℕ). v / 256 ^ suc i % 256 ∷ l) (low_from (suc (suc i)) k v ∙ ap (bytes_of k) (sym (div_bytes v (suc i))))

pub bytes_of-low : (n v : ℕ) → bytes_low_first 0 n v ≡ bytes_of n v
bytes_of-low n v = low_from 0 n v ∙ ap (bytes_of n) (div-one v)

-- ---- lines
pub line-take : (k : ℕ) (s : List ℕ) → line k s ≡ take 32 (drop (32 * k) s)
line-take k s =
    let whole : 32 * k + 32 - 32 * k ≡ 32 = omega arith in
    ap (λ (n : ℕ). take n (drop (32 * k) s)) whole

pub line-suc : (k : ℕ) (s : List ℕ) → line (suc k) s ≡ line k (drop 32 s)
line-suc k s =
    let place : 32 + 32 * k ≡ 32 * suc k = omega arith in
    line-take (suc k) s
    ∙ ap (take 32) (ap (λ (n : ℕ). drop n s) (sym place) ∙ sym (drop-drop (32 * k) 32 s))
    ∙ sym (line-take k (drop 32 s))

pub lines_start : (n : ℕ) (s : List ℕ) → lines n s ≡ lines (n - 0) (drop (32 * 0) s)
lines_start n s = simp sub-zero

pub lines_next : (n i : ℕ) (s : List ℕ) → i < n →
    lines (n - i) (drop (32 * i) s) ≡ line i s ∷ lines (n - (i + 1)) (drop (32 * (i + 1)) s)
unfolding lines
lines_next n i s h =
    let left : n - i ≡ suc (n - (i + 1)) = omega arith in
    let place : 32 * i + 32 ≡ 32 * (i + 1) = omega arith in
    let after = drop-drop 32 (32 * i) s ∙ ap (λ (m : ℕ). drop m s) place in
    rw left (ap₂ ◌∷◌ (sym (line-take i s)) (ap (lines (n - (i + 1))) after))

pub lines_end : (n i : ℕ) (s : List ℕ) → n ≤ i → lines (n - i) s ≡ []
unfolding lines
lines_end n i s h = let none : n - i ≡ 0 = omega arith in rw none

-- One line more.
pub lines-suc : (n : ℕ) (s : List ℕ) → lines (suc n) s ≡ lines n s ++ (line n s ∷ [])
unfolding lines
lines-suc zero s = refl
lines-suc (suc n) s =
    ap (λ (ls : List (List ℕ)). take 32 s ∷ ls)
    (lines-suc n (drop 32 s) ∙ ap (λ (l : List ℕ). lines n (drop 32 s) ++ (l ∷ [])) (sym (line-suc n s)))

pub lines_snoc : (n : ℕ) (s : List ℕ) → lines (n + 1) s ≡ lines n s ++ (line n s ∷ [])
lines_snoc n s = ap (λ (m : ℕ). lines m s) (add-one n) ∙ lines-suc n s

-- A part's whole lines are its chunks of 32 bytes.
pub line-chunk : (n k : ℕ) (s : List ℕ) → k < n → get_or (first_chunks 32 n s) k [] ≡ line k s
line-chunk zero k s h = absurd (omega arith)
line-chunk (suc n) zero s h = sym (line-take 0 s)
line-chunk (suc n) (suc k) s h = line-chunk n k (drop 32 s) (omega arith) ∙ sym (line-suc k s)
