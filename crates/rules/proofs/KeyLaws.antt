-- A key tells kind, unit and period, and a mask makes it of a record's first eight bytes; what stands among
-- lines is found by a scan for a key. Assumes nothing.
use Rattle.std.proofs.Common.{◌≡◌, ℕ, zero, suc, ◌+◌, ◌-◌, ◌*◌, ◌<◌, ◌≤◌, Bool, true, false, ◌||◌, eqb, List, take, drop, sym, refl, ap, ◌∙◌, ap₂, suc-add, zero-add, arith, lit<, drop-drop, eq-eqb, ne_eqb}
use Rattle.std.specs.List.{list_any, range_with_len}
use lib.Bits.{bit_and, and_block, and_mask, and_zero_r}
use Rattle.choice.specs.Tests.{◌either◌}
use Rattle.choice.proofs.Splitting.{if_test, if_eq}
use Rattle.choice.proofs.TestsLaws.{either_t, either_f, any}
use Rattle.rules.specs.Bytes.{line, lines}
use Rattle.rules.specs.Fields.{kind, flags, unit_number, fuel_number, period}
use Rattle.rules.specs.Repeat.{is_of, stands, stands_among}
use Rattle.rules.specs.Key.{key, Start, Keyed, stands_in}
use Rattle.rules.proofs.BytesLaws.{line-take}
use Rattle.rules.proofs.RepeatLaws.{is_of_is, is_is_of}

masked : (k g u f w : ℕ) → k < 256 → g < 256 → u < 65536 → f < 65536 → w < 65536
    → bit_and (k + 256 * g + 65536 * u + 4294967296 * f + 281474976710656 * w) 0xFFFF0000FFFF00FF
    ≡ k + 65536 * u + 281474976710656 * w
masked k g u f w a b c d e =
    let blocks : k + 256 * g + 65536 * u + 4294967296 * f + 281474976710656 * w
    ≡ ((w * 65536 + f) * 65536 + u) * 65536 + (k + 256 * g) = omega arith in
    ap (λ (x : ℕ). bit_and x 0xFFFF0000FFFF00FF) blocks
    ∙ and_block 16 ((w * 65536 + f) * 65536 + u) 0xFFFF0000FFFF (k + 256 * g) 0xFF (omega arith) (lit< tt)
    ∙ ap₂ (λ (x y : ℕ). x * 65536 + y) high low
    ∙ omega arith
  where
    low : bit_and (k + 256 * g) 0xFF ≡ k
    low = and_mask (k + 256 * g) 8 ∙ omega arith

    keep : (x : ℕ) → x < 65536 → bit_and x 0xFFFF ≡ x
    keep x h = and_mask x 16 ∙ omega arith

    top : bit_and (w * 65536 + f) 0xFFFF0000 ≡ w * 65536
    top =
        and_block 16 w 0xFFFF f 0 (omega arith) (lit< tt)
        ∙ ap₂ (λ (x y : ℕ). x * 65536 + y) (keep w e) (and_zero_r f)
        ∙ omega arith

    high : bit_and ((w * 65536 + f) * 65536 + u) 0xFFFF0000FFFF ≡ w * 65536 * 65536 + u
    high =
        and_block 16 (w * 65536 + f) 0xFFFF0000 u 0xFFFF (omega arith) (lit< tt)
        ∙ ap₂ (λ (x y : ℕ). x * 65536 + y) top (keep u c)

pub keyed : {r : ℕ} (l : List ℕ) → Start l r → Keyed l (bit_and r 0xFFFF0000FFFF00FF)
unfolding key
keyed l s = record {
  kind_lt = s.kind_lt;
  unit_lt = s.unit_lt;
  key_is = ap (λ (x : ℕ). bit_and x 0xFFFF0000FFFF00FF) s.start
      ∙ masked (kind l) (flags l) (unit_number l) (fuel_number l) (period l)
      s.kind_lt s.flags_lt s.unit_lt s.fuel_lt s.period_lt;
}

-- ---- a record l, and an earlier one e
module _ {r q : ℕ} (l e : List ℕ) (a : Keyed l r) (b : Keyed e q) where
  is_of-same : q ≡ r → is_of (kind l) (unit_number l) (period l) e ≡ true
  unfolding key
  is_of-same h =
      let x = a.key_is in
      let y = b.key_is in
      is_of_is _ _ _ e (record { kind_is = omega arith; unit_is = omega arith; period_is = omega arith })

  is_of_other : (q ≡ r → ⊥) → is_of (kind l) (unit_number l) (period l) e ≡ false
  unfolding key
  is_of_other h =
      if_test (is_of (kind l) (unit_number l) (period l) e)
      (λ t. let is = is_is_of (kind l) (unit_number l) (period l) e t in
      absurd (h (b.key_is
      ∙ ap₂ (λ (k u : ℕ). k + 65536 * u + 281474976710656 * period e) is.kind_is is.unit_is
      ∙ ap (λ (w : ℕ). kind l + 65536 * unit_number l + 281474976710656 * w) is.period_is
      ∙ sym a.key_is)))
      (λ f. f)

  -- The code's compare of their keys.
  is_of-key : eqb q r ≡ is_of (kind l) (unit_number l) (period l) e
  is_of-key =
      if_eq q r (λ h. eq-eqb q r h ∙ sym (is_of-same h)) (λ h. ne_eqb q r h ∙ sym (is_of_other h))

-- ---- the scan, by one line or by more at a time
either_none : (a : Bool) → (a either false) ≡ a
either_none a = if_test a (λ t. either_t _ t ∙ sym t) (λ f. either_f f (sym f))

either_assoc : (a b c : Bool) → (a either (b either c)) ≡ (a either b either c)
either_assoc a b c =
    if_test a
    (λ t. either_t _ t ∙ sym (either_t _ (either_t _ t)))
    (λ f. either_f f (ap (λ (x : Bool). x either c) (sym (either_f f refl))))

module _ (l : List ℕ) where
  among-add : (m n : ℕ) (s : List ℕ)
      → stands_among l (lines (m + n) s) ≡ (stands_among l (lines m s) either stands_in l m n s)
  unfolding stands_among stands lines
  among-add zero n s = ap (λ (k : ℕ). stands_among l (lines k s)) (zero-add n) ∙ sym (either_f refl refl)
  among-add (suc m) n s =
      let place : 32 + 32 * m ≡ 32 * suc m = omega arith in
      let after = drop-drop (32 * m) 32 s ∙ ap (λ (k : ℕ). drop k s) place in
      ap (λ (k : ℕ). stands_among l (lines k s)) (suc-add m n)
      ∙ ap (λ (b : Bool). is_of (kind l) (unit_number l) (period l) (take 32 s) either b)
      (among-add m n (drop 32 s)
      ∙ ap (λ (t : List ℕ). stands_among l (lines m (drop 32 s)) either stands_among l (lines n t)) after)
      ∙ either_assoc _ _ _

  stands_in-add : (j m n : ℕ) (s : List ℕ)
      → stands_in l j (m + n) s ≡ (stands_in l j m s either stands_in l (j + m) n s)
  stands_in-add j m n s =
      let place : 32 * j + 32 * m ≡ 32 * (j + m) = omega arith in
      among-add m n (drop (32 * j) s)
      ∙ ap (λ (t : List ℕ). stands_in l j m s either stands_among l (lines n t))
      (drop-drop (32 * m) (32 * j) s ∙ ap (λ (k : ℕ). drop k s) place)

  -- The code's tests of m lines and of one more.
  pub stands_in_more : (j : ℕ) (s : List ℕ) (m : ℕ) {a b : Bool}
      → a ≡ stands_in l j m s → b ≡ stands_in l (j + m) 1 s → (a || b) ≡ stands_in l j (m + 1) s
  stands_in_more j s m p q = any p q ∙ sym (stands_in-add j m 1 s)

  pub stands_in_one : {r q : ℕ} (j : ℕ) (s : List ℕ) → Keyed l r → Keyed (line j s) q → eqb q r ≡ stands_in l j 1 s
  unfolding stands_among stands lines
  stands_in_one j s a b =
      is_of-key l (line j s) a b
      ∙ ap (is_of (kind l) (unit_number l) (period l)) (line-take j s)
      ∙ sym (either_none _)

  -- The code's test of each of n lines.
  pub stands_in-any : (j n : ℕ) (s : List ℕ) → list_any (λ i. stands_in l i 1 s) (range_with_len j n) ≡ stands_in l j n s
  unfolding stands_among stands lines
  stands_in-any j zero s = refl
  stands_in-any j (suc n) s =
      let more : 1 + n ≡ suc n = omega arith in
      any refl (stands_in-any (j + 1) n s)
      ∙ sym (stands_in-add j 1 n s)
      ∙ ap (λ (k : ℕ). stands_in l j k s) more

-- What is left of the first n lines of s, from line j on.
module _ (l s : List ℕ) (n : ℕ) where
  module _ (j m : ℕ) {r : Bool} (h : j + m ≤ n) (e : r ≡ stands_in l j m s) where
    left : stands_in l j (n - j) s ≡ (r either stands_in l (j + m) (n - (j + m)) s)
    left =
        let more : n - j ≡ m + (n - (j + m)) = omega arith in
        ap (λ (k : ℕ). stands_in l j k s) more
        ∙ stands_in-add l j m (n - (j + m)) s
        ∙ ap (λ (b : Bool). b either stands_in l (j + m) (n - (j + m)) s) (sym e)

    pub scan_found : r ≡ true → stands_in l j (n - j) s ≡ true
    scan_found t = left ∙ either_t _ t

    pub scan_on : r ≡ false → stands_in l j (n - j) s ≡ stands_in l (j + m) (n - (j + m)) s
    scan_on f = left ∙ either_f f refl
