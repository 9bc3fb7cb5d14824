-- Lines that tell no refusal are passed over, since none begins with that word; a refusal's own line is found.
-- Assumes nothing.
use Prim.Native.Nat.{ℕ, zero, suc, ◌/◌, ◌%◌, ◌<◌}
use mathlib.Core.Bool.{Bool, true, false, false≢true}
use mathlib.Core.List.{List, [], ◌∷◌, ◌++◌, append_assoc, append-nil}
use mathlib.Core.Path.{◌≡◌, refl, sym, ap, ◌∙◌}
use native.Mathlib.Omega.{arith}
use lib.Dec.{eqb, ltb}
use lib.ListN.{length, length-append}
use borrow.Author.Tests.{eq-eqb, ne_eqb, lt-ltb, ltb-true}
use Rattle.choice.specs.Tests.{◌also◌, choose}
use Rattle.choice.proofs.Splitting.{if_test}
use Rattle.choice.proofs.TestsLaws.{also_t, also_f, also_l, also_r, either_t, either_f, choose_t, if_choose}
use Rattle.text.specs.Words.{ascii, newline, digit, digits, decimal, field, line}
use Rattle.text.specs.Report.{refused_text}
use Rattle.text.specs.Refusal.{begins, tells, has_refusal}

-- ---- bytes that end no line
abbrev pub plain : List ℕ → Bool
plain [] = true
plain (x ∷ s) = ltb 10 x also plain s

pub record Plain (s : List ℕ) : Type 0 where
  pub is_plain : plain s ≡ true

pub plain_word : (s : List ℕ) → plain s ≡ true → Plain s
plain_word s p = record { is_plain = p }

plain_both : (s t : List ℕ) → plain s ≡ true → plain t ≡ true → plain (s ++ t) ≡ true
plain_both [] t p q = q
plain_both (x ∷ s) t p q =
    also_t (also_l (ltb 10 x) (plain s) p) (plain_both s t (also_r (ltb 10 x) (plain s) p) q)

pub plain_append : {s t : List ℕ} → Plain s → Plain t → Plain (s ++ t)
plain_append {s} {t} p q = record { is_plain = plain_both s t p.is_plain q.is_plain }

pub plain_choose : (c : Bool) {s t : List ℕ} → Plain s → Plain t → Plain (choose c s t)
plain_choose c p q = if_choose Plain c (λ e. p) (λ e. q)

plain_digits : (k n : ℕ) → Plain (digits k n)
unfolding digits
plain_digits zero n = plain_word [] refl
plain_digits (suc k) n =
    plain_choose (ltb n 10) (one n) (plain_append (plain_digits k (n / 10)) (one (n % 10)))
  where
    one : (d : ℕ) → Plain (digit d ∷ [])
    one d = plain_word _ (also_t (lt-ltb 10 (digit d) (omega arith)) refl)

pub plain_decimal : (n : ℕ) → Plain (decimal n)
unfolding decimal
plain_decimal n = plain_digits 20 n

pub plain_field : (s : List ℕ) (n : ℕ) → plain s ≡ true → Plain (field s n)
plain_field s n p = plain_append (plain_word s p) (plain_decimal n)

-- ---- within a line
next : (first : Bool) (x : ℕ) (s t : List ℕ) → plain (x ∷ s) ≡ true
    → (first also begins (ascii "refused ") (x ∷ s ++ t)) ≡ false → tells first (x ∷ s ++ t) ≡ tells false (s ++ t)
unfolding tells
next first x s t p e =
    let above = ltb-true 10 x (also_l (ltb 10 x) (plain s) p) in
    either_f e (ap (λ (b : Bool). tells b (s ++ t)) (ne_eqb x 10 (λ e. omega arith)))

within : (s t : List ℕ) → plain s ≡ true → tells false (s ++ t) ≡ tells false t
within [] t p = refl
within (x ∷ s) t p =
    next false x s t p (also_f (begins (ascii "refused ") (x ∷ s ++ t)) refl)
    ∙ within s t (also_r (ltb 10 x) (plain s) p)

pub tells_plain : (s t : List ℕ) → Plain s → tells false (s ++ t) ≡ tells false t
tells_plain s t p = within s t p.is_plain

pub tells-newline : (t : List ℕ) → tells false (10 ∷ t) ≡ tells true t
unfolding tells
tells-newline t = either_f (also_f (begins (ascii "refused ") (10 ∷ t)) refl) refl

-- ---- the front of a line that is no refusal's
pub record Other (s : List ℕ) : Type 0 where
  pub some : 0 < length s
  pub goes_on : Plain s
  pub differs : (t : List ℕ) → begins (ascii "refused ") (s ++ t) ≡ false

-- s has another byte somewhere than w, and both have one there.
abbrev pub apart : List ℕ → List ℕ → Bool
apart [] s = false
apart (x ∷ w) [] = false
apart (x ∷ w) (y ∷ s) = choose (eqb y x) (apart w s) true

begins-apart : (w s t : List ℕ) → apart w s ≡ true → begins w (s ++ t) ≡ false
unfolding begins
begins-apart [] s t a = absurd (false≢true a)
begins-apart (x ∷ w) [] t a = absurd (false≢true a)
begins-apart (x ∷ w) (y ∷ s) t a =
    if_test (eqb y x)
    (λ e. also_t e (begins-apart w s t (sym (choose_t true e refl) ∙ a)))
    (λ e. also_f (begins w (s ++ t)) e)

pub other : (s : List ℕ) → plain s ≡ true → apart (ascii "refused ") s ≡ true → Other s
other [] p a = absurd (false≢true a)
other (x ∷ s) p a = record {
  some = omega arith;
  goes_on = plain_word (x ∷ s) p;
  differs = λ t. begins-apart (ascii "refused ") (x ∷ s) t a;
}

pub other_append : {s t : List ℕ} → Other s → Plain t → Other (s ++ t)
other_append {s} {t} o p = record {
  some = omega (arith, length-append s t, o.some);
  goes_on = plain_append o.goes_on p;
  differs = λ u. ap (begins (ascii "refused ")) (append_assoc s t u) ∙ o.differs (t ++ u);
}

pub other_field : (s : List ℕ) (n : ℕ) → plain s ≡ true → apart (ascii "refused ") s ≡ true → Other (field s n)
other_field s n p a = other_append (other s p a) (plain_decimal n)

pub tells_other : (s t : List ℕ) → Other s → tells true (s ++ t) ≡ tells false t
tells_other [] t o = absurd (omega (arith, o.some))
tells_other (x ∷ s) t o =
    let p = o.goes_on.is_plain in
    next true x s t p (also_t refl (o.differs t)) ∙ within s t (also_r (ltb 10 x) (plain s) p)

-- ---- whole lines that are no refusals'
pub record Quiet (s : List ℕ) : Type 0 where
  pub passed : (t : List ℕ) → tells true (s ++ t) ≡ tells true t

pub quiet_append : {s t : List ℕ} → Quiet s → Quiet t → Quiet (s ++ t)
quiet_append {s} {t} p q = record {
  passed = λ u. ap (tells true) (append_assoc s t u) ∙ p.passed (t ++ u) ∙ q.passed u;
}

pub quiet_choose : (c : Bool) {s t : List ℕ} → Quiet s → Quiet t → Quiet (choose c s t)
quiet_choose c p q = if_choose Quiet c (λ e. p) (λ e. q)

pub quiet_ended : (s : List ℕ) → Other s → Quiet (s ++ newline)
quiet_ended s o = record {
  passed = λ t. ap (tells true) (append_assoc s newline t) ∙ tells_other s (10 ∷ t) o ∙ tells-newline t;
}

pub quiet_line : (s : List ℕ) (n : ℕ) → plain s ≡ true → apart (ascii "refused ") s ≡ true → Quiet (line s n)
quiet_line s n p a = quiet_ended (field s n) (other_field s n p a)

pub has_refusal_quiet : (s : List ℕ) → Quiet s → has_refusal s ≡ false
unfolding has_refusal tells
has_refusal_quiet s q = ap (tells true) (sym (append-nil s)) ∙ q.passed []

pub has_refusal_behind : (s t : List ℕ) → Quiet s → has_refusal (s ++ t) ≡ has_refusal t
unfolding has_refusal
has_refusal_behind s t q = q.passed t

-- ---- the line of a refusal
begins-append : (w t : List ℕ) → begins w (w ++ t) ≡ true
unfolding begins
begins-append [] t = refl
begins-append (x ∷ w) t = also_t (eq-eqb x x refl) (begins-append w t)

tells-front : (t : List ℕ) → tells true (ascii "refused " ++ t) ≡ true
unfolding tells
tells-front t = either_t _ (also_t refl (begins-append (ascii "refused ") t))

pub has_refusal-refused_text : (n : ℕ) (vs : List ℕ) → has_refusal (refused_text n vs) ≡ true
unfolding has_refusal refused_text
has_refusal-refused_text n vs = tells-front _
