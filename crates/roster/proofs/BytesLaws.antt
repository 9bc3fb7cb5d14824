-- The bytes before a byte and after it, and `same` as std's search and `==` tell them. Assumes nothing.
use Prim.Native.Nat.{ℕ, suc, ◌+◌, ◌-◌, ◌<◌, ◌≤◌}
use mathlib.Core.Bool.{true, false, cond}
use Rattle.std.proofs.Common.{Some, None, position}
use Rattle.std.specs.List.{position_or_len}
use Rattle.std.specs.Cmp.Lexicographic.{pointwise}
use Rattle.std.proofs.lemmas.List.Recursion.{is_position_or_len}
use mathlib.Core.List.{List, [], ◌∷◌}
use mathlib.Core.Path.{◌≡◌, refl, sym, ap, ap₂, subst, ◌∙◌}
use native.Mathlib.Omega.{arith}
use lib.Dec.{T, eqb}
use lib.ListN.{length, take, drop, length-drop, drop_of_length-le}
use lib.Seq.{take_all}
use borrow.Author.Tests.{eq-eqb, ne_eqb, eqb-true, ltb-true, ltb-false}
use Rattle.choice.proofs.Splitting.{if_test, if_eq}
use Rattle.choice.proofs.TestsLaws.{choose_t, choose_f, also_t, also_f, both}
use Rattle.roster.specs.Bytes.{span, front, rest, same}
use Rattle.roster.specs.Search.{has}

pub length_none : (xs : List ℕ) → length xs ≤ 0 → xs ≡ []
length_none [] l = refl
length_none (x ∷ xs) l = absurd (omega arith)

-- ---- the bytes before the first b
pub span-zero : (b x : ℕ) (xs : List ℕ) → x ≡ b → span b (x ∷ xs) ≡ 0
unfolding span
span-zero b x xs e = choose_t _ (eq-eqb x b e) refl

pub span-suc : (b x : ℕ) (xs : List ℕ) → (x ≡ b → ⊥) → span b (x ∷ xs) ≡ suc (span b xs)
unfolding span
span-suc b x xs n = choose_f _ (ne_eqb x b n) refl

pub span-nil : (b : ℕ) → span b [] ≡ 0
unfolding span
span-nil b = refl

span-le : (b : ℕ) (xs : List ℕ) → span b xs ≤ length xs
span-le b [] = omega (arith, span-nil b)
span-le b (x ∷ xs) =
    if_eq x b
    (λ e. omega (arith, span-zero b x xs e))
    (λ n. omega (arith, span-suc b x xs n, span-le b xs))

-- The place at which a search for b stops.
position-span : (b : ℕ) (xs : List ℕ) → position_or_len (λ x. eqb x b) xs ≡ span b xs
position-span b xs = sym (is_position_or_len (span b) (λ x. eqb x b) (span-nil b) (next b) xs)
  where
    next : (b x : ℕ) (xs : List ℕ) → span b (x ∷ xs) ≡ cond (eqb x b) 0 (1 + span b xs)
    next b x xs =
        if_eq x b
        (λ e. rw (eq-eqb x b e) (span-zero b x xs e))
        (λ n. let on = span-suc b x xs n in rw (ne_eqb x b n) (omega arith))

pub has→lt : (b : ℕ) (xs : List ℕ) → has b xs ≡ true → span b xs < length xs
unfolding has
has→lt b xs h = ltb-true (span b xs) (length xs) h

pub has→le : (b : ℕ) (xs : List ℕ) → has b xs ≡ false → length xs ≤ span b xs
unfolding has
has→le b xs h = ltb-false (span b xs) (length xs) h

pub front-none : (b : ℕ) (xs : List ℕ) → length xs ≤ span b xs → front b xs ≡ xs
unfolding front
front-none b xs l = take_all (span b xs) xs l

pub rest-none : (b : ℕ) (xs : List ℕ) → length xs ≤ span b xs → rest b xs ≡ []
unfolding rest
rest-none b xs l = drop_of_length-le xs {i = suc (span b xs)} (omega arith)

-- What a search for b answers.
searched : (b : ℕ) (xs : List ℕ) → position (λ x. eqb x b) xs ≡ cond (has b xs) (Some (span b xs)) None
unfolding has
searched b xs = rw (position-span b xs)

-- The run, cut at the place n that was found.
pub cut_found : (b : ℕ) (xs : List ℕ) (n : ℕ) → position (λ x. eqb x b) xs ≡ Some n
    → (has b xs ≡ true) × (take n xs ≡ front b xs) × (take (length xs - (n + 1)) (drop (n + 1) xs) ≡ rest b xs)
unfolding front rest
cut_found b xs n e =
    if_test (has b xs)
    (λ h.
    let some : Some (span b xs) ≡ Some n = rw h at (sym (searched b xs) ∙ e) in
    let found : n ≡ span b xs = cc in
    let on : n + 1 ≡ suc (span b xs) = omega arith in (
      h,
      ap (λ (k : ℕ). take k xs) found,
      take_all (length xs - (n + 1)) (drop (n + 1) xs) (omega (arith, length-drop (n + 1) xs))
          ∙ ap (λ (k : ℕ). drop k xs) on,
    ))
    (λ h. let none : None ≡ Some n = rw h at (sym (searched b xs) ∙ e) in cc)

pub cut_none : (b : ℕ) (xs : List ℕ) → position (λ x. eqb x b) xs ≡ None → has b xs ≡ false
cut_none b xs e =
    if_test (has b xs)
    (λ h. let some : Some (span b xs) ≡ None = rw h at (sym (searched b xs) ∙ e) in cc)
    (λ h. h)

pub rest_lt : {u : List ℕ} (b : ℕ) (xs : List ℕ) → u ≡ rest b xs → has b xs ≡ true → length u < length xs
unfolding rest
rest_lt b xs e h =
    let there = has→lt b xs h in
    omega (arith, ap length e, length-drop (suc (span b xs)) xs)

-- ---- two runs of bytes
pub same→eq : (xs ys : List ℕ) → same xs ys ≡ true → xs ≡ ys
unfolding same
same→eq [] [] h = refl
same→eq [] (y ∷ ys) h = absurd (subst T (sym h) tt)
same→eq (x ∷ xs) [] h = absurd (subst T (sym h) tt)
same→eq (x ∷ xs) (y ∷ ys) h =
    if_test (eqb x y)
    (λ e. ap₂ {A = ℕ} {B = List ℕ} (λ z zs. z ∷ zs) (eqb-true x y e) (same→eq xs ys (sym (also_t e refl) ∙ h)))
    (λ e. absurd (subst T (sym h ∙ also_f (same xs ys) e) tt))

pub same_refl : (xs : List ℕ) → same xs xs ≡ true
unfolding same
same_refl [] = refl
same_refl (x ∷ xs) = also_t (eq-eqb x x refl) (same_refl xs)

-- `==` compares as `same` does.
pub same-pointwise : (xs ys : List ℕ) → same xs ys ≡ pointwise eqb xs ys
unfolding same
same-pointwise [] [] = refl
same-pointwise [] (y ∷ ys) = refl
same-pointwise (x ∷ xs) [] = refl
same-pointwise (x ∷ xs) (y ∷ ys) = sym (both refl (sym (same-pointwise xs ys)))
