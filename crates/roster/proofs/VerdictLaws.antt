-- The verdict on a list comes line by line. Assumes nothing.
use Prim.Native.Nat.{ℕ, suc, ◌+◌, ◌<◌, ◌≤◌}
use mathlib.Core.Bool.{true, false}
use mathlib.Core.List.{List, [], ◌∷◌}
use mathlib.Core.Path.{◌≡◌, refl, sym, ap, ap₂, ◌∙◌}
use native.Mathlib.Omega.{arith}
use lib.Dec.{ltb}
use lib.ListN.{length}
use borrow.Author.Tests.{lt-ltb, le-ltb}
use Rattle.std.specs.Prelude.{Result, Ok, Err}
use Rattle.choice.specs.Tests.{choose}
use Rattle.choice.proofs.Splitting.{if_test}
use Rattle.choice.proofs.TestsLaws.{choose_t, choose_f}
use Rattle.roster.specs.declared.plants.Fault.{Fault}
use Rattle.roster.specs.declared.plants.Fault.TheVariants.{Wrong, Again, Many}
use Rattle.roster.specs.Bytes.{front, rest}
use Rattle.roster.specs.Search.{has}
use Rattle.roster.specs.Lines.{newline, Split, split, lines_of}
use Rattle.roster.specs.Plants.{most_plants, is_plant, named_before, verdict_from}
use Rattle.roster.proofs.BytesLaws.{length_none, has→lt, has→le}
use Rattle.roster.proofs.LinesLaws.{split_ended, split-unended}

-- ---- one line more: line i of a list is l
module _ (cs : List (List ℕ)) (i : ℕ) (l : List ℕ) (ls : List (List ℕ)) (u : List ℕ) where
  verdict_from_many : most_plants ≤ i → verdict_from cs i (l ∷ ls) u ≡ Err Many
  unfolding verdict_from
  verdict_from_many h = choose_f _ (le-ltb i most_plants h) refl

  module _ (few : i < most_plants) where
    verdict_from_wrong : is_plant l ≡ false → verdict_from cs i (l ∷ ls) u ≡ Err (Wrong i)
    unfolding verdict_from
    verdict_from_wrong h = choose_t (Err Many) (lt-ltb i most_plants few) (choose_f _ h refl)

    module _ (plant : is_plant l ≡ true) where
      verdict_from_again : named_before cs i l ≡ true → verdict_from cs i (l ∷ ls) u ≡ Err (Again i)
      unfolding verdict_from
      verdict_from_again h =
          choose_t (Err Many) (lt-ltb i most_plants few) (choose_t (Err (Wrong i)) plant (choose_t _ h refl))

      verdict_from_next : named_before cs i l ≡ false → verdict_from cs i (l ∷ ls) u ≡ verdict_from cs (suc i) ls u
      unfolding verdict_from
      verdict_from_next h =
          choose_t (Err Many) (lt-ltb i most_plants few) (choose_t (Err (Wrong i)) plant (choose_f (Err (Again i)) h refl))

-- ---- no line more
verdict_from_done : (cs : List (List ℕ)) (i : ℕ) → Ok i ≡ verdict_from cs i [] []
unfolding verdict_from
verdict_from_done cs i = refl

verdict_from-tail : (cs : List (List ℕ)) (i : ℕ) (t : List ℕ) → 0 < length t
    → verdict_from cs i [] t ≡ choose (ltb i most_plants) (Err (Wrong i)) (Err Many)
unfolding verdict_from
verdict_from-tail cs i [] l = absurd (omega arith)
verdict_from-tail cs i (x ∷ t) l = refl

-- What is left of a list, its first line being line i, says what is told of the whole.
module _ {r : Result ℕ Fault} (cs : List (List ℕ)) (i : ℕ) (t : List ℕ)
    (whole : verdict_from cs i (lines_of t) (split t).unended ≡ r)
  where
    read_as : {s : Split} → split t ≡ s → verdict_from cs i s.lines s.unended ≡ r
    read_as e = ap (λ (s : Split). verdict_from cs i s.lines s.unended) (sym e) ∙ whole

    pub verdict_on_end : length t ≤ 0 → Ok i ≡ r
    verdict_on_end z =
        verdict_from_done cs i
        ∙ ap (verdict_from cs i []) (sym (length_none t z))
        ∙ read_as (split-unended t (omega arith))

    unended : has newline t ≡ false → 0 < length t → choose (ltb i most_plants) (Err (Wrong i)) (Err Many) ≡ r
    unended h some = sym (verdict_from-tail cs i t some) ∙ read_as (split-unended t (has→le newline t h))

    pub verdict_on-unended : has newline t ≡ false → 0 < length t → i < most_plants → Err (Wrong i) ≡ r
    verdict_on-unended h some few = sym (choose_t (Err Many) (lt-ltb i most_plants few) refl) ∙ unended h some

    ended : has newline t ≡ true
        → verdict_from cs i (front newline t ∷ lines_of (rest newline t)) (split (rest newline t)).unended ≡ r
    ended h = read_as (split_ended t (has→lt newline t h))

    pub verdict_on_many : 0 < length t → most_plants ≤ i → Err Many ≡ r
    verdict_on_many some full =
        if_test (has newline t)
        (λ h. sym (verdict_from_many cs i _ _ _ full) ∙ ended h)
        (λ h. sym (choose_f (Err (Wrong i)) (le-ltb i most_plants full) refl) ∙ unended h some)

    -- Its first line is l, and u stands after that.
    module _ {l : List ℕ} (h : has newline t ≡ true) (first : l ≡ front newline t) (few : i < most_plants) where
      line : verdict_from cs i (l ∷ lines_of (rest newline t)) (split (rest newline t)).unended ≡ r
      line =
          ap (λ (l : List ℕ). verdict_from cs i (l ∷ lines_of (rest newline t)) (split (rest newline t)).unended) first
          ∙ ended h

      pub verdict_on_wrong : is_plant l ≡ false → Err (Wrong i) ≡ r
      verdict_on_wrong p = sym (verdict_from_wrong cs i _ _ _ few p) ∙ line

      module _ (plant : is_plant l ≡ true) where
        pub verdict_on_again : named_before cs i l ≡ true → Err (Again i) ≡ r
        verdict_on_again p = sym (verdict_from_again cs i _ _ _ few plant p) ∙ line

        pub verdict_on_next : {u : List ℕ} → named_before cs i l ≡ false → u ≡ rest newline t
            → verdict_from cs (i + 1) (lines_of u) (split u).unended ≡ r
        verdict_on_next p e =
            let on : i + 1 ≡ suc i = omega arith in
            ap₂ (λ (k : ℕ) (u : List ℕ). verdict_from cs k (lines_of u) (split u).unended) on e
            ∙ sym (verdict_from_next cs i _ _ _ few plant p)
            ∙ line
