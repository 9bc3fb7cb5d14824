-- What a list is told of, line by line, and what a right list is. Assumes nothing.
use Prim.Native.Nat.{ℕ, zero, suc, ◌+◌, ◌<◌, ◌≤◌, zero-le}
use mathlib.Core.Bool.{Bool, true, false, cond, not}
use Rattle.std.proofs.Common.{position}
use Rattle.std.specs.Option.{unwrap_or}
use Rattle.std.proofs.lemmas.Bool.Decides.{nat_tests}
use Rattle.std.specs.List.{list_all, list_any, position_or_len, starts_with}
use mathlib.Core.List.{List, [], ◌∷◌, map}
use mathlib.Core.Path.{◌≡◌, refl, sym, ap, ◌∙◌}
use native.Mathlib.Omega.{arith}
use lib.Dec.{eqb, ltb, leb}
use lib.ListN.{length, get_or, take, get_or-map}
use lib.Seq.{drop-nil, take-nil}
use borrow.Author.Tests.{lt-ltb, le-ltb, le-leb, lt-leb, ne_eqb}
use Rattle.choice.proofs.Splitting.{if_test, if_eq}
use Rattle.choice.proofs.TestsLaws.{worked-out, choose_t, choose_f, also_t, also_f, also_fail, both}
use Rattle.roster.specs.Bytes.{span, front, rest, same}
use Rattle.roster.specs.Search.{has}
use Rattle.roster.specs.Plants.{longest_book_path, longest_checkpoint_path, space, hash, visible, is_word, book_of, checkpoint_of, is_comment, is_plant, index_from}
use Rattle.roster.proofs.BytesLaws.{has→le, front-none, rest-none, same→eq, same_refl}

-- ---- a word's bytes
pub list_all-visible : (w : List ℕ) → list_all (λ b. ltb 32 b) w ≡ visible w
unfolding visible
list_all-visible [] = refl
list_all-visible (b ∷ w) = both refl (list_all-visible w)

module _ (m : ℕ) (w : List ℕ) where
  pub is_word_of : {r : Bool} → 1 ≤ length w → length w ≤ m → r ≡ visible w → r ≡ is_word m w
  unfolding is_word
  is_word_of some few e = e ∙ sym (also_t (also_t (le-leb 1 (length w) some) (le-leb (length w) m few)) refl)

  pub is_word_empty : length w < 1 → false ≡ is_word m w
  unfolding is_word
  is_word_empty none = sym (also_f _ (also_f _ (lt-leb 1 (length w) none)))

  pub is_word_long : m < length w → false ≡ is_word m w
  unfolding is_word
  is_word_long many = sym (also_f _ (also_fail (leb 1 (length w)) (lt-leb (length w) m many)))

pub ruleset word_tests = (is_word_of, is_word_empty, is_word_long)

-- ---- a plant's line
pub starts_with-is_comment : (l : List ℕ) → starts_with eqb l (35 ∷ []) ≡ is_comment l
unfolding is_comment
starts_with-is_comment [] = refl
starts_with-is_comment (x ∷ l) =
    if_eq x hash (λ e. rw e refl) (λ n. rw (ne_eqb hash x (λ e. n (sym e)), ne_eqb x hash n) refl)

pub ruleset comment_tests = (starts_with-is_comment)

-- The two words of a line, where a space stands and where none does.
module _ (l : List ℕ) where
  pub book_of_front : {w : List ℕ} → w ≡ front space l → w ≡ book_of l
  unfolding book_of
  book_of_front e = e

  pub checkpoint_of_rest : {w : List ℕ} → w ≡ rest space l → w ≡ checkpoint_of l
  unfolding checkpoint_of
  checkpoint_of_rest e = e

  pub book_of_none : has space l ≡ false → l ≡ book_of l
  unfolding book_of
  book_of_none h = sym (front-none space l (has→le space l h))

  pub checkpoint_of_none : has space l ≡ false → [] ≡ checkpoint_of l
  unfolding checkpoint_of
  checkpoint_of_none h = sym (rest-none space l (has→le space l h))

pub ruleset word_cuts = (book_of_front, checkpoint_of_rest, book_of_none, checkpoint_of_none)

module _ (l : List ℕ) where
  pub is_plant_of : {b c : List ℕ} {r : Bool} → b ≡ book_of l → c ≡ checkpoint_of l
      → is_word longest_book_path b ≡ true → is_word longest_checkpoint_path c ≡ true → r ≡ is_comment l
      → not r ≡ is_plant l
  unfolding is_plant
  is_plant_of e f p q g =
      sym (also_t (also_t (rw e at p) (rw f at q)) (ap not (sym g)))

  pub is_plant_bookless : {b : List ℕ} → b ≡ book_of l → is_word longest_book_path b ≡ false → false ≡ is_plant l
  unfolding is_plant
  is_plant_bookless e p = sym (also_f _ (also_f _ (rw e at p)))

  pub is_plant_placeless : {c : List ℕ} → c ≡ checkpoint_of l → is_word longest_checkpoint_path c ≡ false
      → false ≡ is_plant l
  unfolding is_plant
  is_plant_placeless f q = sym (also_f _ (also_fail _ (rw f at q)))

pub ruleset plant_tests = (is_plant_of, is_plant_bookless, is_plant_placeless)

pub is_plant-nil : is_plant [] ≡ false
unfolding is_plant is_word book_of front span
is_plant-nil = simp worked-out

-- ---- where a word first stands
-- Where a search of ws for w stops.
abbrev stop : List ℕ → List (List ℕ) → ℕ
stop w ws = position_or_len (λ x. same x w) ws

index_from-stop : (j n : ℕ) (w : List ℕ) (ws : List (List ℕ))
    → index_from j n w ws ≡ cond (ltb (stop w ws) (length ws)) (j + stop w ws) n
unfolding index_from
index_from-stop j n w [] = refl
index_from-stop j n w (x ∷ ws) =
    if_test (same x w)
    (λ t. choose_t _ t (rw t (grind (arith, nat_tests))))
    (λ f. choose_f j f (index_from-stop (suc j) n w ws ∙ rw f (grind (arith, nat_tests))))

pub unwrap_or-index_from : (n : ℕ) (w : List ℕ) (ws : List (List ℕ))
    → unwrap_or (position (λ x. same x w) ws) n ≡ index_from 0 n w ws
unwrap_or-index_from n w ws =
    let from : 0 + stop w ws ≡ stop w ws = omega arith in
    if_test (ltb (stop w ws) (length ws))
    (λ t. rw (index_from-stop 0 n w ws, t, from) refl)
    (λ f. rw (index_from-stop 0 n w ws, f) refl)

-- A proof by cases: w isn't among ws, or it is, and first stands at k.
pub if_among : {G : Type 0} (j n : ℕ) (w : List ℕ) (ws : List (List ℕ)) → (index_from j n w ws ≡ n → G)
    → ((k : ℕ) → k < length ws → get_or ws k [] ≡ w → index_from j n w ws ≡ j + k → G) → G
unfolding index_from
if_among j n w [] out found = out refl
if_among j n w (x ∷ ws) out found =
    if_test (same x w)
    (λ t. let here : j ≡ j + 0 = omega arith in found 0 (omega arith) (same→eq x w t) (choose_t _ t here))
    (λ f. if_among (suc j) n w ws
    (λ e. out (choose_f j f e))
    (λ k l e q.
    let there : suc j + k ≡ j + suc k = omega arith in
    found (suc k) (omega arith) e (choose_f j f (q ∙ there))))

index_from-ge : (j n : ℕ) (w : List ℕ) (ws : List (List ℕ)) → j ≤ n → j ≤ index_from j n w ws
index_from-ge j n w ws l = if_among j n w ws (λ e. omega arith) (λ k h e q. omega arith)

-- Whether w is among the first m of those parts that f takes.
pub list_any-index_from : (f : List ℕ → List ℕ) (w : List ℕ) (j m n : ℕ) (ls : List (List ℕ)) → j + m ≡ n
    → list_any (λ l. same (f l) w) (take m ls) ≡ ltb (index_from j n w (map f ls)) n
unfolding index_from
list_any-index_from f w j m n [] e = rw (take-nil m) (sym (le-ltb n n (omega arith)))
list_any-index_from f w j zero n (l ∷ ls) e =
    sym (le-ltb _ n (omega (arith, index_from-ge j n w (map f (l ∷ ls)) (omega arith))))
list_any-index_from f w j (suc m) n (l ∷ ls) e =
    if_test (same (f l) w)
    (λ t. rw t (sym (ap (λ (k : ℕ). ltb k n) (choose_t _ refl refl) ∙ lt-ltb j n (omega arith))))
    (λ h.
    rw h
    (list_any-index_from f w (suc j) m n ls (omega arith)
    ∙ sym (ap (λ (k : ℕ). ltb k n) (choose_f j refl refl))))

-- w is number k of ws, and first stands at `at`.
pub record First (j n : ℕ) (w : List ℕ) (ws : List (List ℕ)) (k : ℕ) : Type 0 where
  pub at : ℕ
  pub early : at ≤ k
  pub has_it : get_or ws at [] ≡ w
  pub index_is : index_from j n w ws ≡ j + at

first_here : (j n : ℕ) (w x : List ℕ) (ws : List (List ℕ)) (k : ℕ) → same x w ≡ true → First j n w (x ∷ ws) k
unfolding index_from
first_here j n w x ws k t =
    let here : j ≡ j + 0 = omega arith in
    record { at = 0; early = zero-le; has_it = same→eq x w t; index_is = choose_t _ t here }

first-there : (j n : ℕ) (w x : List ℕ) (ws : List (List ℕ)) (k : ℕ) → same x w ≡ false
    → First (suc j) n w ws k → First j n w (x ∷ ws) (suc k)
unfolding index_from
first-there j n w x ws k f r =
    let there : suc j + r.at ≡ j + suc r.at = omega arith in
    let early = r.early in
    record { at = suc r.at; early = omega arith; has_it = r.has_it; index_is = choose_f j f (r.index_is ∙ there) }

pub first : (j n : ℕ) (w : List ℕ) (ws : List (List ℕ)) (k : ℕ) → k < length ws → get_or ws k [] ≡ w → First j n w ws k
first j n w [] k l e = absurd (omega arith)
first j n w (x ∷ ws) zero l e = first_here j n w x ws 0 (ap (same x) (sym e) ∙ same_refl x)
first j n w (x ∷ ws) (suc k) l e =
    if_test (same x w)
    (λ t. first_here j n w x ws (suc k) t)
    (λ f. first-there j n w x ws k f (first (suc j) n w ws k (omega arith) e))

pub get_d_checkpoint : (ls : List (List ℕ)) (k : ℕ) → get_or (map checkpoint_of ls) k [] ≡ checkpoint_of (get_or ls k [])
get_d_checkpoint ls k =
    ap (get_or (map checkpoint_of ls) k) nothing ∙ get_or-map checkpoint_of ls k []
  where
    nothing : [] ≡ checkpoint_of []
    nothing = unfold checkpoint_of rest in sym (drop-nil (suc (span space [])))
