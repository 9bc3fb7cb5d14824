-- A refusal is looked for byte by byte. Assumes nothing.
use Prim.Native.Nat.{ℕ, suc, ◌+◌, ◌-◌, ◌<◌, ◌≤◌}
use mathlib.Core.Bool.{Bool, true, false, ◌&&◌}
use mathlib.Core.List.{List, [], ◌∷◌}
use mathlib.Core.Path.{◌≡◌, refl, sym, ap, ◌∙◌}
use native.Mathlib.Omega.{arith}
use lib.Dec.{eqb}
use lib.ListN.{length, get_or, take, drop, length-drop, drop_of_length-le}
use lib.Seq.{take_all, drop-cons}
use borrow.Author.Tests.{eq-eqb, ne_eqb}
use Rattle.std.specs.Cmp.Lexicographic.{pointwise}
use Rattle.choice.specs.Tests.{◌also◌, ◌either◌}
use Rattle.choice.proofs.Splitting.{if_eq}
use Rattle.choice.proofs.TestsLaws.{also_t, also_f, either_t, either_f}
use Rattle.text.specs.Words.{ascii}
use Rattle.text.specs.Refusal.{begins, tells}

-- The byte at i is next.
drop_next : (t : List ℕ) (i : ℕ) → i < length t → drop i t ≡ get_or t i 0 ∷ drop (i + 1) t
drop_next t i l =
    let after : suc i ≡ i + 1 = omega arith in
    drop-cons t i 0 l ∙ ap (λ (j : ℕ). get_or t i 0 ∷ drop j t) after

-- ---- the word at the front of a text
pub begins-pointwise : (w t : List ℕ) → pointwise eqb w (take (length w) t) ≡ begins w t
unfolding begins
begins-pointwise [] t = refl
begins-pointwise (x ∷ w) [] = refl
begins-pointwise (x ∷ w) (y ∷ t) =
    if_eq y x
    (λ e.
    ap (λ (b : Bool). b && pointwise eqb w (take (length w) t)) (eq-eqb x y (sym e))
    ∙ begins-pointwise w t
    ∙ sym (also_t (eq-eqb y x e) refl))
    (λ n.
    ap (λ (b : Bool). b && pointwise eqb w (take (length w) t)) (ne_eqb x y (λ q. n (sym q)))
    ∙ sym (also_f (begins w t) (ne_eqb y x n)))

-- ---- one byte more
abbrev refused_at : Bool → List ℕ → Bool
refused_at first t = first also begins (ascii "refused ") t

-- What is left of a text, from its byte i on, says the rest.
module _ {r : Bool} (first : Bool) (t : List ℕ) (i : ℕ) (whole : tells first (drop i t) ≡ r) where
  module _ (there : i < length t) where
    turn : (refused_at first (drop i t) either tells (eqb (get_or t i 0) 10) (drop (i + 1) t)) ≡ r
    unfolding tells
    turn =
        let at = drop_next t i there in
        ap (λ (u : List ℕ). refused_at first u either tells (eqb (get_or t i 0) 10) (drop (i + 1) t)) at
        ∙ ap (tells first) (sym at)
        ∙ whole

    -- The code looks at what is left of the slice.
    seen : {b : Bool} → b ≡ (first also begins (ascii "refused ") (take (length t - i) (drop i t)))
        → b ≡ refused_at first (drop i t)
    seen e = e ∙ ap (refused_at first) (take_all (length t - i) (drop i t) (omega (arith, length-drop i t)))

    pub tells_here : refused_at first (take (length t - i) (drop i t)) ≡ true → true ≡ r
    tells_here e = sym (either_t (tells (eqb (get_or t i 0) 10) (drop (i + 1) t)) (sym (seen refl) ∙ e)) ∙ turn

    pub tells_next : refused_at first (take (length t - i) (drop i t)) ≡ false
        → tells (eqb (get_or t i 0) 10) (drop (i + 1) t) ≡ r
    tells_next e = sym (either_f (sym (seen refl) ∙ e) refl) ∙ turn

  pub tells_end : length t ≤ i → false ≡ r
  unfolding tells
  tells_end l = ap (tells first) (sym (drop_of_length-le t {i = i} l)) ∙ whole
