-- The answer is true of the list, and any answer that is true of it is the one told: the lines are passed while
-- they are right, and the first that isn't stops the count. Assumes nothing.
use Prim.Native.Nat.{ℕ, zero, suc, ◌+◌, ◌<◌, zero-le}
use mathlib.Core.Bool.{true, false, false≢true}
use mathlib.Core.List.{List, [], map}
use mathlib.Core.Logic.{◌↔◌}
use mathlib.Core.Path.{◌≡◌, refl, sym, ap, subst, ◌∙◌}
use native.Mathlib.Omega.{arith}
use lib.ListN.{length, get_or, length-map, length-drop}
use borrow.Author.Tests.{lt-ltb, ltb-true}
use Rattle.std.specs.Prelude.{Result, Ok, Err}
use Rattle.choice.proofs.Splitting.{if_test, if_lt}
use Rattle.roster.specs.declared.plants.Fault.{Fault}
use Rattle.roster.specs.declared.plants.Fault.TheVariants.{Wrong, Again, Many}
use Rattle.roster.specs.Search.{has}
use Rattle.roster.specs.Lines.{newline, split, lines_of, line_at, after}
use Rattle.roster.specs.Plants.{most_plants, checkpoint_of, is_plant, named_before, verdict_from, verdict_on}
use Rattle.roster.specs.Right.{RightUpTo}
use Rattle.roster.proofs.BytesLaws.{length_none, has→lt}
use Rattle.roster.proofs.LinesLaws.{Whole, lines_after, unended-after, after-suc, has-after, lines_some, line_at_ended, line_at-none}
use Rattle.roster.proofs.PlantsLaws.{is_plant-nil, first, if_among, get_d_checkpoint}
use Rattle.roster.proofs.VerdictLaws.{verdict_on_end, verdict_on-unended, verdict_on_many, verdict_on_wrong, verdict_on_again, verdict_on_next}

-- What each answer says of a list. What isn't a line is no plant's: unended text is told as a wrong line.
abbrev pub Says : List ℕ → Result ℕ Fault → Type 0
Says t (Ok n) = RightUpTo t n × (after n t ≡ [])
Says t (Err (Wrong i)) = RightUpTo t i × (i < most_plants) × (0 < length (after i t)) × (is_plant (line_at i t) ≡ false)
Says t (Err (Again i)) =
    RightUpTo t i
    × (i < most_plants)
    × (is_plant (line_at i t) ≡ true)
    × ((j : ℕ) × (j < i) × (checkpoint_of (line_at j t) ≡ checkpoint_of (line_at i t)))
Says t (Err Many) = RightUpTo t most_plants × (0 < length (after most_plants t))

abbrev checkpoints : List ℕ → List (List ℕ)
checkpoints t = map checkpoint_of (lines_of t)

-- What stands after i lines says what is told of the whole.
abbrev Left : List ℕ → ℕ → Type 0
Left t i = verdict_from (checkpoints t) i (lines_of (after i t)) (split (after i t)).unended ≡ verdict_on t

-- ---- a CHECKPOINT named before
module _ (t : List ℕ) (i : ℕ) where
  abbrev Named : Type 0
  Named = (j : ℕ) × (j < i) × (checkpoint_of (line_at j t) ≡ checkpoint_of (line_at i t))

  named_before→named : named_before (checkpoints t) i (line_at i t) ≡ true → Named
  unfolding named_before line_at
  named_before→named h =
      let before = ltb-true _ i h in
      if_among 0 i (checkpoint_of (get_or (lines_of t) i [])) (checkpoints t)
      (λ e. absurd (omega arith))
      (λ j l e q. (j, omega arith, sym (get_d_checkpoint (lines_of t) j) ∙ e))

  named→named_before : i < length (lines_of t) → Named → named_before (checkpoints t) i (line_at i t) ≡ true
  unfolding named_before line_at
  named→named_before l n =
      let ls = lines_of t in
      let earlier = n.1 in
      let f = first 0 i (checkpoint_of (get_or ls i [])) (checkpoints t) n.0 (omega (arith, length-map ls checkpoint_of))
      (get_d_checkpoint ls n.0 ∙ n.2) in
      lt-ltb _ i (omega (arith, f.index_is, f.early))

  named_before-apart : (Named → ⊥) → named_before (checkpoints t) i (line_at i t) ≡ false
  named_before-apart out =
      if_test (named_before (checkpoints t) i (line_at i t)) (λ h. absurd (out (named_before→named h))) (λ h. h)

-- ---- right lines are passed
up_to-zero : (t : List ℕ) → RightUpTo t 0
up_to-zero t = record {
  there = zero-le;
  few = zero-le;
  plants = λ k l. absurd (omega arith);
  apart = λ j k l m. absurd (omega arith);
}

up_to-before : (t : List ℕ) (i : ℕ) → RightUpTo t (suc i) → RightUpTo t i
up_to-before t i r =
    let there = r.there in
    let few = r.few in
    record {
      there = omega arith;
      few = omega arith;
      plants = λ k l. r.plants k (omega arith);
      apart = λ j k l m. r.apart j k l (omega arith);
    }

up_to-suc : (t : List ℕ) (i : ℕ) → RightUpTo t i → i < length (lines_of t) → i < most_plants
    → is_plant (line_at i t) ≡ true → (Named t i → ⊥) → RightUpTo t (suc i)
up_to-suc t i r there few plant new = record {
  there = there;
  few = few;
  plants = λ k l. if_lt k i (λ m. r.plants k m) (λ m. let last : k ≡ i = omega arith in rw last plant);
  apart = λ j k l m e.
      if_lt k i
      (λ h. r.apart j k l h e)
      (λ h.
      let last : k ≡ i = omega arith in
      new (j, omega arith, subst (λ (m : ℕ). checkpoint_of (line_at j t) ≡ checkpoint_of (line_at m t)) last e));
}

left_zero : (t : List ℕ) → Left t 0
unfolding verdict_on after
left_zero t = refl

left_suc : (t : List ℕ) (i : ℕ) → Left t i → i < length (lines_of t) → i < most_plants
    → is_plant (line_at i t) ≡ true → (Named t i → ⊥) → Left t (suc i)
left_suc t i left there few plant new =
    let h = has-after i t there in
    let on : suc i ≡ i + 1 = omega arith in
    ap (λ (k : ℕ). verdict_from (checkpoints t) k (lines_of (after (suc i) t)) (split (after (suc i) t)).unended) on
    ∙ verdict_on_next (checkpoints t) i (after i t) left h (sym (line_at_ended i t refl h)) few plant
    (named_before-apart t i new) (after-suc i t)

left_up_to : (t : List ℕ) (i : ℕ) → RightUpTo t i → Left t i
left_up_to t zero r = left_zero t
left_up_to t (suc i) r =
    let before = up_to-before t i r in
    left_suc t i (left_up_to t i before) r.there r.few (r.plants i (omega arith))
    (λ n. r.apart n.0 i n.1 (omega arith) n.2)

-- ---- the answer is true
-- Line i is there.
says_line : (t : List ℕ) (i : ℕ) → RightUpTo t i → Left t i → i < most_plants → has newline (after i t) ≡ true
    → (RightUpTo t (suc i) → Left t (suc i) → Says t (verdict_on t)) → Says t (verdict_on t)
says_line t i r left few h more =
    let there = lines_some i t h in
    let line = sym (line_at_ended i t refl h) in
    if_test (is_plant (line_at i t))
    (λ plant.
    if_test (named_before (checkpoints t) i (line_at i t))
    (λ named.
    subst (Says t)
    (verdict_on_again (checkpoints t) i (after i t) left h line few plant named)
    (r, few, plant, named_before→named t i named))
    (λ new.
    let out : Named t i → ⊥ = λ n. false≢true (sym new ∙ named→named_before t i there n) in
    more (up_to-suc t i r there few plant out) (left_suc t i left there few plant out)))
    (λ other.
    subst (Says t)
    (verdict_on_wrong (checkpoints t) i (after i t) left h line few other)
    (r, few, omega (arith, has→lt newline (after i t) h), other))

-- What isn't a line is no plant's.
plant_none : (t : List ℕ) (i : ℕ) → has newline (after i t) ≡ false → is_plant (line_at i t) ≡ false
plant_none t i h = ap is_plant (sym (line_at-none i t refl h)) ∙ is_plant-nil

says_at : (t : List ℕ) (i : ℕ) → RightUpTo t i → Left t i
    → (i < most_plants → RightUpTo t (suc i) → Left t (suc i) → Says t (verdict_on t)) → Says t (verdict_on t)
says_at t i r left more =
    if_lt 0 (length (after i t))
    (λ some.
    if_lt i most_plants
    (λ few.
    if_test (has newline (after i t))
    (λ h. says_line t i r left few h (more few))
    (λ h.
    subst (Says t)
    (verdict_on-unended (checkpoints t) i (after i t) left h some few)
    (r, few, some, plant_none t i h)))
    (λ full.
    let last : i ≡ most_plants = omega (arith, r.few) in
    subst (Says t)
    (verdict_on_many (checkpoints t) i (after i t) left some full)
    (subst (λ (k : ℕ). RightUpTo t k × (0 < length (after k t))) last (r, some))))
    (λ none. subst (Says t) (verdict_on_end (checkpoints t) i (after i t) left none) (r, length_none (after i t) none))

-- At most f lines more are passed.
says_from : (t : List ℕ) (f i : ℕ) → i + f ≡ most_plants → RightUpTo t i → Left t i → Says t (verdict_on t)
says_from t zero i all r left = says_at t i r left (λ few. absurd (omega arith))
says_from t (suc f) i all r left = says_at t i r left (λ few. says_from t f (suc i) (omega arith))

says_verdict_on : (t : List ℕ) → Says t (verdict_on t)
says_verdict_on t = says_from t most_plants 0 (omega arith) (up_to-zero t) (left_zero t)

-- ---- the answer that is true is told
verdict_on_says : (t : List ℕ) (r : Result ℕ Fault) → Says t r → verdict_on t ≡ r
verdict_on_says t (Ok n) (r, e) =
    sym (verdict_on_end (checkpoints t) n (after n t) (left_up_to t n r) (omega (arith, ap length e)))
verdict_on_says t (Err (Wrong i)) (r, few, some, other) =
    let left = left_up_to t i r in
    if_test (has newline (after i t))
    (λ h. sym (verdict_on_wrong (checkpoints t) i (after i t) left h (sym (line_at_ended i t refl h)) few other))
    (λ h. sym (verdict_on-unended (checkpoints t) i (after i t) left h some few))
verdict_on_says t (Err (Again i)) (r, few, plant, named) =
    if_test (has newline (after i t))
    (λ h.
    let line = sym (line_at_ended i t refl h) in
    let before = named→named_before t i (lines_some i t h) named in
    sym (verdict_on_again (checkpoints t) i (after i t) (left_up_to t i r) h line few plant before))
    (λ h. absurd (false≢true (sym (plant_none t i h) ∙ plant)))
verdict_on_says t (Err Many) (r, some) =
    sym (verdict_on_many (checkpoints t) most_plants (after most_plants t) (left_up_to t most_plants r) some (omega arith))

pub verdict_on↔says : (t : List ℕ) (r : Result ℕ Fault) → (verdict_on t ≡ r) ↔ Says t r
verdict_on↔says t r = (λ e. subst (Says t) e (says_verdict_on t), verdict_on_says t r)

-- ---- a list t of n plants
module _ (t : List ℕ) (n : ℕ) (e : verdict_on t ≡ Ok n) where
  says : Says t (Ok n)
  says = (verdict_on↔says t (Ok n)).0 e

  pub verdict_on-up_to : RightUpTo t n
  verdict_on-up_to = says.0

  pub verdict_on_count : n ≡ length (lines_of t)
  verdict_on_count =
      let there = verdict_on-up_to.there in
      let none : length (lines_of (after n t)) ≡ 0 = ap (λ (u : List ℕ). length (lines_of u)) says.1 ∙ no_lines in
      omega (arith, ap length (lines_after n t), length-drop n (lines_of t))
    where
      no_lines : length (lines_of []) ≡ 0
      no_lines = unfold split in refl

  pub verdict_on-whole : Whole t
  verdict_on-whole =
      sym (unended-after n t verdict_on-up_to.there)
      ∙ ap (λ (u : List ℕ). (split u).unended) says.1
      ∙ nothing
    where
      nothing : Whole []
      nothing = unfold split in refl
