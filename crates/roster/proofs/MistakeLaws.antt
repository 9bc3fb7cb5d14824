-- What is told of a line, test by test; and of a plant's line no mistake is told that has a name. Assumes nothing.
use Prim.Native.Nat.{ℕ, zero, suc, ◌+◌, ◌-◌, ◌<◌, ◌≤◌}
use mathlib.Core.Bool.{Bool, true, false, not, ◌&&◌}
use Rattle.std.proofs.lemmas.Bool.Decides.{nat_tests}
use Rattle.std.specs.List.{list_any, ends_with}
use mathlib.Core.List.{List, [], ◌∷◌}
use mathlib.Core.Path.{◌≡◌, refl, sym, ap, ◌∙◌}
use native.Mathlib.Omega.{arith}
use lib.Dec.{eqb, ltb, leb}
use lib.ListN.{length, get_or, drop, length-drop, drop_of_length-le}
use lib.Seq.{get_or-drop, drop-cons}
use borrow.Author.Tests.{not-true, eq-eqb, ne_eqb, ltb-true, leb-true, lt-ltb, le-ltb, le-leb, lt-leb}
use Rattle.choice.specs.Tests.{◌also◌, choose}
use Rattle.choice.proofs.Splitting.{if_test, if_eq}
use Rattle.choice.proofs.TestsLaws.{also_l, also_r, either_t, either_f, choose_t, choose_f}
use Rattle.roster.specs.declared.mistake.Mistake.{Mistake}
use Rattle.roster.specs.declared.mistake.Mistake.TheVariants.{Comment, Return, Space, Long, Form}
use Rattle.roster.specs.Bytes.{span, rest}
use Rattle.roster.specs.Search.{has}
use Rattle.roster.specs.Plants.{longest_book_path, longest_checkpoint_path, space, visible, is_word, book_of, checkpoint_of, is_comment, is_plant}
use Rattle.roster.specs.Mistake.{return, last_byte, spaces, is_long, mistake_in}
use Rattle.roster.proofs.BytesLaws.{span-zero, span-suc, span-nil, has→lt, has→le, rest-none}

-- ---- spaces are counted
spaces_here : (b : ℕ) (l : List ℕ) → b ≡ space → spaces (b ∷ l) ≡ suc (spaces l)
unfolding spaces
spaces_here b l e = choose_t _ (eq-eqb b space e) refl

spaces_other : (b : ℕ) (l : List ℕ) → (b ≡ space → ⊥) → spaces (b ∷ l) ≡ spaces l
unfolding spaces
spaces_other b l n = choose_f _ (ne_eqb b space n) refl

spaces-nil : spaces [] ≡ 0
unfolding spaces
spaces-nil = refl

-- Those of a line are the first one and those behind it.
spaces_some : (l : List ℕ) → span space l < length l → spaces l ≡ suc (spaces (drop (suc (span space l)) l))
spaces_some [] h = absurd (omega arith)
spaces_some (b ∷ l) h =
    if_eq b space
    (λ e.
    spaces_here b l e
    ∙ ap (λ (k : ℕ). suc (spaces (drop (suc k) (b ∷ l)))) (sym (span-zero space b l e)))
    (λ n.
    spaces_other b l n
    ∙ spaces_some l (omega (arith, span-suc space b l n))
    ∙ ap (λ (k : ℕ). suc (spaces (drop (suc k) (b ∷ l)))) (sym (span-suc space b l n)))

spaces-none : (l : List ℕ) → length l ≤ span space l → spaces l ≡ 0
spaces-none [] h = spaces-nil
spaces-none (b ∷ l) h =
    if_eq b space
    (λ e. absurd (omega (arith, span-zero space b l e)))
    (λ n. spaces_other b l n ∙ spaces-none l (omega (arith, span-suc space b l n)))

-- A second space stands in what is named as CHECKPOINT.
pub spaces_second : (l : List ℕ) → leb 2 (spaces l) ≡ has space (checkpoint_of l)
unfolding checkpoint_of rest
spaces_second l =
    let behind = drop (suc (span space l)) l in
    if_test (has space l)
    (λ first.
    let some = spaces_some l (has→lt space l first) in
    if_test (has space behind)
    (λ h. le-leb 2 (spaces l) (omega (arith, some, spaces_some behind (has→lt space behind h))) ∙ sym h)
    (λ h. lt-leb 2 (spaces l) (omega (arith, some, spaces-none behind (has→le space behind h))) ∙ sym h))
    (λ none.
    let no_more = ap length (rest-none space l (has→le space l none)) in
    if_test (has space behind)
    (λ h. absurd (omega (arith, no_more, has→lt space behind h)))
    (λ h. lt-leb 2 (spaces l) (omega (arith, spaces-none l (has→le space l none))) ∙ sym h))

-- ---- the lengths of the two paths
module _ (l : List ℕ) where
  pub is_long_book : {b : List ℕ} → b ≡ book_of l → longest_book_path < length b → true ≡ is_long l
  unfolding is_long
  is_long_book e m = sym (either_t _ (lt-ltb longest_book_path (length (book_of l)) (rw e at m)))

  pub is_long_checkpoint : {b c : List ℕ} → b ≡ book_of l → length b ≤ longest_book_path → c ≡ checkpoint_of l
      → ltb longest_checkpoint_path (length c) ≡ is_long l
  unfolding is_long
  is_long_checkpoint e m f =
      rw f (sym (either_f (le-ltb longest_book_path (length (book_of l)) (rw e at m)) refl))

pub ruleset long_tests = (is_long_book, is_long_checkpoint)

-- ---- the tests as `contains` and `ends_with` answer them
pub list_any-has : (b : ℕ) (xs : List ℕ) → list_any (λ x. eqb x b) xs ≡ has b xs
unfolding has
list_any-has b [] = sym (le-ltb (span b []) 0 (omega arith))
list_any-has b (x ∷ xs) =
    if_eq x b
    (λ e. rw (eq-eqb x b e) (sym (lt-ltb (span b (x ∷ xs)) (length (x ∷ xs)) (omega (arith, span-zero b x xs e)))))
    (λ n.
    let on : ltb (span b xs) (length xs) ≡ ltb (suc (span b xs)) (length (x ∷ xs)) = grind (arith, nat_tests) in
    rw (ne_eqb x b n, span-suc b x xs n) (list_any-has b xs ∙ on))

pub ends_with-last_byte : (l : List ℕ) → ends_with eqb l (return ∷ []) ≡ eqb (last_byte l) return
ends_with-last_byte [] = refl
ends_with-last_byte (x ∷ l) =
    let last : suc (length l) - 1 ≡ length l = omega arith in
    let within : length l < length (x ∷ l) = omega arith in
    rw (last, drop-cons (x ∷ l) (length l) 0 within, drop_of_length-le (x ∷ l) {i = suc (length l)} (omega arith))
    (swapped (get_or (x ∷ l) (length l) 0))
  where
    swapped : (b : ℕ) → (eqb return b && true) ≡ eqb b return
    swapped b =
        if_eq b return (λ e. rw e refl) (λ n. rw (ne_eqb b return n, ne_eqb return b (λ e. n (sym e))) refl)

-- ---- what is told, test by test
module _ (l : List ℕ) where
  pub mistake_in_comment : is_comment l ≡ true → Comment ≡ mistake_in l
  unfolding mistake_in
  mistake_in_comment h = sym (choose_t _ h refl)

  module _ (no-comment : is_comment l ≡ false) where
    later : {r : Mistake} → choose (eqb (last_byte l) return) Return (choose (leb 2 (spaces l)) Space (choose (is_long l) Long Form)) ≡ r
        → r ≡ mistake_in l
    unfolding mistake_in
    later e = sym (choose_f Comment no-comment e)

    pub mistake_in-return : ends_with eqb l (return ∷ []) ≡ true → Return ≡ mistake_in l
    mistake_in-return e = later (choose_t _ (sym (ends_with-last_byte l) ∙ e) refl)

    module _ (no_return : ends_with eqb l (return ∷ []) ≡ false) {c : List ℕ} (checkpoint : c ≡ checkpoint_of l) where
      second : {r : Bool} → list_any (λ x. eqb x space) c ≡ r → leb 2 (spaces l) ≡ r
      second h = spaces_second l ∙ ap (has space) (sym checkpoint) ∙ sym (list_any-has space c) ∙ h

      pub mistake_in-space : list_any (λ x. eqb x space) c ≡ true → Space ≡ mistake_in l
      mistake_in-space h =
          later (choose_f Return (sym (ends_with-last_byte l) ∙ no_return) (choose_t _ (second h) refl))

      module _ (no-space : list_any (λ x. eqb x space) c ≡ false) where
        last : {r : Mistake} → choose (is_long l) Long Form ≡ r → r ≡ mistake_in l
        last e =
            later
            (choose_f Return (sym (ends_with-last_byte l) ∙ no_return) (choose_f Space (second no-space) e))

        pub mistake_in_long : is_long l ≡ true → Long ≡ mistake_in l
        mistake_in_long h = last (choose_t Form h refl)

        pub mistake_in_form : is_long l ≡ false → Form ≡ mistake_in l
        mistake_in_form h = last (choose_f Long h refl)

-- ---- a plant's line
-- What is told of a word of at most m bytes.
record Word (m : ℕ) (w : List ℕ) : Type 0 where
  pub some : 1 ≤ length w
  pub few : length w ≤ m
  pub seen : visible w ≡ true

word : (m : ℕ) (w : List ℕ) → is_word m w ≡ true → Word m w
unfolding is_word
word m w h =
    let long = also_l (leb 1 (length w) also leb (length w) m) (visible w) h in
    record {
      some = leb-true 1 (length w) (also_l (leb 1 (length w)) (leb (length w) m) long);
      few = leb-true (length w) m (also_r (leb 1 (length w)) (leb (length w) m) long);
      seen = also_r (leb 1 (length w) also leb (length w) m) (visible w) h;
    }

visible_at : (w : List ℕ) (j : ℕ) → visible w ≡ true → j < length w → 32 < get_or w j 0
unfolding visible
visible_at [] j v l = absurd (omega arith)
visible_at (b ∷ w) zero v l = ltb-true 32 b (also_l (ltb 32 b) (visible w) v)
visible_at (b ∷ w) (suc j) v l = visible_at w j (also_r (ltb 32 b) (visible w) v) (omega arith)

span-visible : (w : List ℕ) → visible w ≡ true → span space w ≡ length w
unfolding visible
span-visible [] v = span-nil space
span-visible (b ∷ w) v =
    let above = ltb-true 32 b (also_l (ltb 32 b) (visible w) v) in
    span-suc space b w (λ e. omega arith) ∙ ap suc (span-visible w (also_r (ltb 32 b) (visible w) v))

has-visible : (w : List ℕ) → visible w ≡ true → has space w ≡ false
has-visible w v =
    if_test (has space w) (λ h. absurd (omega (arith, has→lt space w h, span-visible w v))) (λ h. h)

-- The last byte of a line is that of its CHECKPOINT, if it has one.
last_checkpoint : (l : List ℕ) → 1 ≤ length (checkpoint_of l)
    → get_or (checkpoint_of l) (length (checkpoint_of l) - 1) 0 ≡ last_byte l
unfolding checkpoint_of rest
last_checkpoint l h =
    let k = suc (span space l) in
    let left = length-drop k l in
    let place : k + (length (drop k l) - 1) ≡ length l - 1 = omega arith in
    get_or-drop k l (length (drop k l) - 1) 0 ∙ ap (λ (j : ℕ). get_or l j 0) place

pub mistake_in_plant : (l : List ℕ) → is_plant l ≡ true → mistake_in l ≡ Form
unfolding is_plant
mistake_in_plant l h =
    let book-fits = is_word longest_book_path (book_of l) in
    let checkpoint-fits = is_word longest_checkpoint_path (checkpoint_of l) in
    let words = also_l (book-fits also checkpoint-fits) (not (is_comment l)) h in
    let book = word longest_book_path (book_of l) (also_l book-fits checkpoint-fits words) in
    let checkpoint = word longest_checkpoint_path (checkpoint_of l) (also_r book-fits checkpoint-fits words) in
    let end = visible_at (checkpoint_of l) (length (checkpoint_of l) - 1) checkpoint.seen (omega (arith, checkpoint.some)) in
    let short : is_long l ≡ false =
    unfold is_long in
    either_f (le-ltb longest_book_path (length (book_of l)) book.few)
    (le-ltb longest_checkpoint_path (length (checkpoint_of l)) checkpoint.few) in
    let no-comment = not-true (is_comment l) (also_r (book-fits also checkpoint-fits) (not (is_comment l)) h) in
    sym (mistake_in_form l no-comment
    (ends_with-last_byte l
    ∙ ne_eqb (last_byte l) return (λ e. omega (arith, end, last_checkpoint l checkpoint.some, e))) refl
    (list_any-has space (checkpoint_of l) ∙ has-visible (checkpoint_of l) checkpoint.seen) short)
