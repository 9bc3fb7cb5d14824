-- The word of its fields, and the word and the figures of each kind of reply. Assumes nothing.
use Prim.Native.Nat.{ℕ, ◌+◌, ◌*◌}
use mathlib.Core.Bool.{false}
use mathlib.Core.List.{List, [], ◌∷◌}
use mathlib.Core.Path.{◌≡◌, refl, sym, ap, ◌∙◌}
use lib.Dec.{eqb}
use lib.ListN.{length}
use Rattle.std.specs.Prelude.{Result, Ok, Err}
use Rattle.std.specs.Result.{result_and}
use Rattle.choice.proofs.TestsLaws.{also_t, also_f, choose_t, choose_f}
use Rattle.mass.specs.declared.figures.Figures.{Figures}
use Rattle.job.specs.declared.reply.Refusal.{Refusal}
use Rattle.job.specs.Reply.{Reply, reply, figure_values, started, woken, remaining}
use Rattle.job.proofs.ReplyLaws.{started-refused, started-fresh, woken-refused, woken-moved, woken_remaining, figure_values_six}
use Rattle.wetherstep.specs.Face.{packed, word_of, figures_after}

-- ---- the word of its fields
pub packed_sum : (n k m d c : ℕ) → packed n k m d c ≡ n + 256 * k + 65536 * m + 16777216 * d + 4294967296 * c
unfolding packed
packed_sum n k m d c = refl

-- ---- the word of each kind of reply
module _ {r : Reply} {w n : ℕ} where
  pub word_of-none : {m : ℕ} → r ≡ reply n [] → m ≡ n → w ≡ packed m 0 0 0 0 → w ≡ word_of r
  unfolding word_of
  word_of-none e q p = p ∙ ap (λ (m : ℕ). packed m 0 0 0 0) q ∙ ap word_of (sym e)

  pub word_of_count : {c : ℕ} → r ≡ reply n (c ∷ []) → w ≡ packed n 0 0 0 c → w ≡ word_of r
  unfolding word_of
  word_of_count e p = p ∙ ap word_of (sym e)

  pub word_of_aside : {i k : ℕ} → r ≡ reply n (i ∷ k ∷ []) → w ≡ packed n k 0 0 i → w ≡ word_of r
  unfolding word_of
  word_of_aside e p = p ∙ ap word_of (sym e)

-- A start has no value, and its word is that of the count 0.
pub word_of_started : (r : Result (Unit {0}) Refusal) → word_of (woken (result_and r (Ok 0))) ≡ word_of (started r)
unfolding word_of
word_of_started (Err x) = ap word_of (woken-refused x ∙ sym (started-refused x))
word_of_started (Ok _) = ap word_of (woken-moved 0) ∙ sym (ap word_of started-fresh)

-- A count of the records left has the reply of a wake that went through as many.
pub word_of_left : (r : Result ℕ Refusal) → word_of (woken r) ≡ word_of (remaining r)
word_of_left r = ap word_of (woken_remaining r)

-- ---- figures are written, and nothing else is
pub figures_after-kept : {r : Reply} {n : ℕ} {vs : List ℕ} (fs : List ℕ) → r ≡ reply n vs
    → eqb (length vs) 6 ≡ false → figures_after r fs ≡ fs
unfolding figures_after
figures_after-kept {vs = vs} fs e l =
    ap (λ (r : Reply). figures_after r fs) e
    ∙ choose_f vs (also_f _ l) refl

pub figures_after_six : (a b c d e m : ℕ) (fs : List ℕ)
    → figures_after (reply 0 (a ∷ b ∷ c ∷ d ∷ e ∷ m ∷ [])) fs ≡ (a ∷ b ∷ c ∷ d ∷ e ∷ m ∷ [])
unfolding figures_after
figures_after_six a b c d e m fs = choose_t fs (also_t refl refl) refl

module _ {r : Reply} (f : Figures) (e : r ≡ reply 0 (figure_values f)) where
  pub word_of-given : {w : ℕ} → w ≡ packed 0 0 0 0 0 → w ≡ word_of r
  unfolding word_of
  word_of-given p = p ∙ ap (λ (vs : List ℕ). word_of (reply 0 vs)) (sym (figure_values_six f refl)) ∙ ap word_of (sym e)

  pub figures_after-given : (fs : List ℕ) → figures_after r fs ≡ figure_values f
  figures_after-given fs =
      let six = figure_values_six f refl in
      ap (λ (x : Reply). figures_after x fs) e
      ∙ ap (λ (vs : List ℕ). figures_after (reply 0 vs) fs) six
      ∙ figures_after_six _ _ _ _ _ _ fs
      ∙ sym six
