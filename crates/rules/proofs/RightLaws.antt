-- A scan passes lines exactly when they are right one by one and two by two: each line is held against
-- the one before it, and so against all before it. Assumes nothing.
use Rattle.std.proofs.Common.{◌≡◌, ℕ, zero, suc, ◌/◌, ◌<◌, Bool, true, ◌↔◌, List, length, take, drop, sym, refl, ap, ◌∙◌, arith, lt-ltb, le-leb}
use Rattle.choice.proofs.TestsLaws.{also_t, also_r}
use Rattle.rules.specs.Bytes.{line, lines, lines_in}
use Rattle.rules.specs.Fields.{number}
use Rattle.rules.specs.Book.{lines_ok, lines_sound}
use Rattle.rules.specs.Right.{RightLines}
use Rattle.rules.proofs.BytesLaws.{line-suc}
use Rattle.rules.proofs.LinesLaws.{lines_ok-each, lines_sound-each, rising_lines_sound}

module _ (ok : List ℕ → Bool) where
  -- Any n lines, `before` being the number before them.
  lines_ok_right : (n before : ℕ) (s : List ℕ)
      → ((k : ℕ) → k < n → ok (line k s) ≡ true)
      → ((k : ℕ) → k < n → before < number (line k s))
      → ((j k : ℕ) → j < k → k < n → number (line j s) < number (line k s))
      → lines_ok ok before (lines n s) ≡ true
  unfolding lines_ok lines
  lines_ok_right zero before s each above rise = refl
  lines_ok_right (suc n) before s each above rise =
      let first = also_t (lt-ltb _ _ (above 0 (omega arith))) (each 0 (omega arith)) in
      also_t first
      (lines_ok_right n (number (take 32 s)) (drop 32 s)
      (λ k l. ap ok (sym (line-suc k s)) ∙ each (suc k) (omega arith))
      (λ k l. rw (sym (line-suc k s)) (rise 0 (suc k) (omega arith) (omega arith)))
      (λ j k h l. rw (sym (line-suc k s), sym (line-suc j s)) (rise (suc j) (suc k) (omega arith) (omega arith))))

  pub lines_sound_right_lines : (s : List ℕ) → (lines_sound ok s ≡ true) ↔ RightLines ok s
  unfolding lines_sound lines_in
  lines_sound_right_lines s = (
    λ h.
        let rising = rising_lines_sound ok s h in
        record {
          few = rising.few;
          each = λ k. lines_sound-each ok s k h;
          above = λ k l. (lines_ok-each ok (length s / 32) k 0 s (also_r _ _ h) l).1;
          rise = rising.rise;
        },
    λ r. also_t (le-leb _ _ r.few) (lines_ok_right (length s / 32) 0 s r.each r.above r.rise),
  )
