-- The place that a text keeps is the index of its last line that is in the list; turned round so that a plant
-- stands last, a list keeps that plant's. Assumes nothing.
use Prim.Native.Nat.{ℕ, suc, ◌+◌, ◌<◌, ◌≤◌}
use mathlib.Core.List.Memᴰ
use mathlib.Core.List.{List, [], ◌∷◌, ◌++◌, append_assoc, Memᴰ}
use mathlib.Core.Path.{◌≡◌, refl, sym, ap, ap₂, ◌∙◌}
use native.Mathlib.Omega.{arith}
use lib.ListN.{length, get_or, take, drop}
use lib.Seq.{take-suc}
use Rattle.std.specs.Prelude.{Ok}
use Rattle.choice.proofs.Splitting.{if_test, if_lt}
use Rattle.choice.proofs.TestsLaws.{choose_f}
use Rattle.roster.specs.Bytes.{same}
use Rattle.roster.specs.Lines.{lines_of, line_at, after, through}
use Rattle.roster.specs.Plants.{most_plants, checkpoint_of, index_from, verdict_on}
use Rattle.roster.specs.Place.{kept, none, place_from, placed}
use Rattle.roster.proofs.BytesLaws.{same→eq}
use Rattle.roster.proofs.LinesLaws.{lines_after, lines-through, lines-append, unended-after}
use Rattle.roster.proofs.PlantsLaws.{first, if_among}
use Rattle.roster.proofs.ToldLaws.{verdict_on-up_to, verdict_on_count, verdict_on-whole}

-- ---- one line more of a kept text, of which the lines ks are left
module _ {r : ℕ} (p : ℕ) (ls : List (List ℕ)) {ks : List (List ℕ)} (whole : place_from p ls ks ≡ r) where
  pub place_next : {q : ℕ} {l : List ℕ} {ms : List (List ℕ)} → ks ≡ l ∷ ms → q ≡ index_from 0 p l ls
      → place_from q ls ms ≡ r
  unfolding place_from
  place_next e f = rw (f, ← whole, e)

  pub place_end : ks ≡ [] → p ≡ r
  unfolding place_from
  place_end e = rw (← whole, e)

-- ---- a plant's line in a right list
-- A right list's line first stands where it stands.
index_right : (t : List ℕ) (n : ℕ) → verdict_on t ≡ Ok n → (p i : ℕ) → i < n
    → index_from 0 p (line_at i t) (lines_of t) ≡ i
unfolding line_at
index_right t n e p i l =
    let all = verdict_on_count t n e in
    let line = first 0 p (get_or (lines_of t) i []) (lines_of t) i (omega arith) refl in
    let early = line.early in
    if_lt line.at i
    (λ h. absurd ((verdict_on-up_to t n e).apart line.at i h l (ap checkpoint_of line.has_it)))
    (λ h. omega (arith, line.index_is))

-- ---- several lines
place_from-append : (p : ℕ) (ls ks ms : List (List ℕ)) → place_from p ls (ks ++ ms) ≡ place_from (place_from p ls ks) ls ms
unfolding place_from
place_from-append p ls [] ms = refl
place_from-append p ls (k ∷ ks) ms = place_from-append (index_from 0 p k ls) ls ks ms

index_absent : (j n : ℕ) (w : List ℕ) (ws : List (List ℕ)) → (Memᴰ w ws → ⊥) → index_from j n w ws ≡ n
unfolding index_from
index_absent j n w [] out = refl
index_absent j n w (x ∷ ws) out =
    if_test (same x w)
    (λ t. absurd (out (Memᴰ.head (sym (same→eq x w t)))))
    (λ f. choose_f j f (index_absent (suc j) n w ws (λ h. out (Memᴰ.tail h))))

place_from_absent : (p : ℕ) (ls ks : List (List ℕ)) → ((l : List ℕ) → Memᴰ l ks → Memᴰ l ls → ⊥)
    → place_from p ls ks ≡ p
unfolding place_from
place_from_absent p ls [] out = refl
place_from_absent p ls (k ∷ ks) out =
    place_from_absent (index_from 0 p k ls) ls ks (λ l h. out l (Memᴰ.tail h))
    ∙ index_absent 0 p k ls (out k (Memᴰ.head refl))

place_from_last : (p : ℕ) (ls before gone : List (List ℕ)) (k : List ℕ)
    → ((l : List ℕ) → Memᴰ l gone → Memᴰ l ls → ⊥)
    → place_from p ls (before ++ k ∷ gone) ≡ index_from 0 (place_from p ls before) k ls
place_from_last p ls before gone k out =
    place_from-append p ls before (k ∷ gone)
    ∙ one (place_from p ls before)
    ∙ place_from_absent (index_from 0 (place_from p ls before) k ls) ls gone out
  where
    one : (p : ℕ) → place_from p ls (k ∷ gone) ≡ place_from (index_from 0 p k ls) ls gone
    one p = unfold place_from in refl

-- ---- the place in a right list u
pub placed-none : (u k : List ℕ) → ((l : List ℕ) → Memᴰ l (lines_of k) → Memᴰ l (lines_of u) → ⊥)
    → placed u k ≡ none
unfolding placed
placed-none u k out = place_from_absent none (lines_of u) (lines_of k) out

pub placed_last : (u : List ℕ) (m : ℕ) → verdict_on u ≡ Ok m
    → (k : List ℕ) (before gone : List (List ℕ)) (line : List ℕ) → lines_of k ≡ before ++ line ∷ gone
    → ((l : List ℕ) → Memᴰ l gone → Memᴰ l (lines_of u) → ⊥)
    → (j : ℕ) → j < m → line_at j u ≡ line → placed u k ≡ j
unfolding placed
placed_last u m f k before gone line e out j h same_line =
    ap (place_from none (lines_of u)) e
    ∙ place_from_last none (lines_of u) before gone line out
    ∙ ap (λ (l : List ℕ). index_from 0 (place_from none (lines_of u) before) l (lines_of u)) (sym same_line)
    ∙ index_right u m f (place_from none (lines_of u) before) j h

-- ---- the kept text
lines-kept : (t : List ℕ) (n : ℕ) → verdict_on t ≡ Ok n → (i : ℕ) → i < n
    → lines_of (kept i t) ≡ drop (suc i) (lines_of t) ++ take i (lines_of t) ++ line_at i t ∷ []
unfolding kept line_at
lines-kept t n e i l =
    let ls = lines_of t in
    let all = verdict_on_count t n e in
    lines-append (after (suc i) t) (through (suc i) t) (unended-after (suc i) t (omega arith) ∙ verdict_on-whole t n e)
    ∙ ap₂ ◌++◌ (lines_after (suc i) t) (lines-through (suc i) t (omega arith) ∙ take-suc ls i [] (omega arith))
    ∙ sym (append_assoc (drop (suc i) ls) (take i ls) (get_or ls i [] ∷ []))

-- The list may have changed meanwhile from t to u: the plant is found where it now stands.
pub placed-kept : (t : List ℕ) (n : ℕ) → verdict_on t ≡ Ok n → (i : ℕ) → i < n
    → (u : List ℕ) (m : ℕ) → verdict_on u ≡ Ok m → (j : ℕ) → j < m
    → line_at j u ≡ line_at i t → placed u (kept i t) ≡ j
placed-kept t n e i l u m f =
    placed_last u m f (kept i t) (drop (suc i) (lines_of t) ++ take i (lines_of t)) [] (line_at i t)
    (lines-kept t n e i l)
    (λ k h. absurd (Memᴰ.not-nil h))

-- ---- the place is a slot
index_lt : (b j n : ℕ) (w : List ℕ) (ws : List (List ℕ)) → j + length ws ≤ b → n < b → index_from j n w ws < b
index_lt b j n w ws most l =
    if_among j n w ws (λ e. omega arith) (λ k h e q. omega arith)

place_from-lt : (b p : ℕ) (ls ks : List (List ℕ)) → length ls ≤ b → p < b → place_from p ls ks < b
unfolding place_from
place_from-lt b p ls [] most l = l
place_from-lt b p ls (k ∷ ks) most l =
    place_from-lt b (index_from 0 p k ls) ls ks most (index_lt b 0 p k ls (omega arith) l)

pub placed-lt : (t : List ℕ) (n : ℕ) → verdict_on t ≡ Ok n → (k : List ℕ) → placed t k < most_plants
unfolding placed
placed-lt t n e k =
    place_from-lt most_plants none (lines_of t) (lines_of k)
    (omega (arith, verdict_on_count t n e, (verdict_on-up_to t n e).few)) (omega arith)
