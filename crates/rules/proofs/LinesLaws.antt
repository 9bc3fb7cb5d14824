-- Lines that break no rule, scanned one by one or known at once. Assumes nothing.
use Rattle.std.proofs.Common.{◌≡◌, ℕ, zero, suc, ◌+◌, ◌-◌, ◌*◌, ◌/◌, ◌<◌, ◌≤◌, Bool, true, false, ltb, List, length, take, drop, sym, refl, ap, ◌∙◌, not-suc-le-zero, arith, ltb-true, le-ltb, lt-ltb, le-leb, leb-true}
use borrow.Author.Tests.{lt-leb}
use Rattle.choice.specs.Tests.{◌also◌}
use Rattle.choice.proofs.TestsLaws.{also_t, also_f, also_l, also_r}
use Rattle.rules.specs.Bytes.{line, lines, lines_in}
use Rattle.rules.specs.Fields.{number}
use Rattle.rules.specs.Book.{most_lines, lines_ok, lines_sound}
use Rattle.rules.specs.Listing.{number_at, Rising}
use Rattle.rules.proofs.BytesLaws.{line-suc, lines_start, lines_next, lines_end}

-- ---- a scan begins only if there are few lines
pub lines_sound_many : (ok : List ℕ → Bool) (s : List ℕ) → most_lines < length s / 32 → lines_sound ok s ≡ false
unfolding lines_sound
lines_sound_many ok s h = also_f _ (lt-leb _ _ h)

pub lines_sound-few : (ok : List ℕ → Bool) (s : List ℕ) → length s / 32 ≤ most_lines
    → lines_sound ok s ≡ lines_ok ok 0 (lines (length s / 32 - 0) (drop (32 * 0) s))
unfolding lines_sound lines_in
lines_sound-few ok s h = also_t (le-leb _ _ h) (ap (lines_ok ok 0) (lines_start _ s))

-- ---- it stands at line i of n, `before` being the number before it
pub lines_ok_end : (ok : List ℕ → Bool) (s : List ℕ) (n i before : ℕ) → n ≤ i
    → lines_ok ok before (lines (n - i) (drop (32 * i) s)) ≡ true
unfolding lines_ok
lines_ok_end ok s n i before h = ap (lines_ok ok before) (lines_end n i (drop (32 * i) s) h)

-- It has read the line l with the number x, and the whole is as sound as what is left.
pub record Scanned (ok : List ℕ → Bool) (s : List ℕ) (n i before : ℕ) (l : List ℕ) (x : ℕ) (whole : Bool) : Type 0 where
  pub left : whole ≡ lines_ok ok before (lines (n - i) (drop (32 * i) s))
  pub line_is : l ≡ line i s
  pub number_is : x ≡ number l
  pub there : i < n

module _ {ok : List ℕ → Bool} {s : List ℕ} {n i before : ℕ} {l : List ℕ} {x : ℕ} {whole : Bool} (c : Scanned ok s n i before l x whole) where
  scanned_first : whole ≡ (ltb before x also ok l also lines_ok ok x (lines (n - (i + 1)) (drop (32 * (i + 1)) s)))
  unfolding lines_ok
  scanned_first =
      let number_is : x ≡ number (line i s) = c.number_is ∙ ap number c.line_is in
      let after = lines (n - (i + 1)) (drop (32 * (i + 1)) s) in
      c.left
      ∙ ap (lines_ok ok before) (lines_next n i s c.there)
      ∙ sym (λ j. ltb before (number_is j) also ok (c.line_is j) also lines_ok ok (number_is j) after)

  pub scanned_low : x ≤ before → whole ≡ false
  scanned_low m = scanned_first ∙ also_f _ (also_f _ (le-ltb before x m))

  pub scanned_bad : before < x → ok l ≡ false → whole ≡ false
  scanned_bad m b = scanned_first ∙ also_f _ (also_t (lt-ltb before x m) b)

  pub scanned_next : before < x → ok l ≡ true → whole ≡ lines_ok ok x (lines (n - (i + 1)) (drop (32 * (i + 1)) s))
  scanned_next m b = scanned_first ∙ also_t (also_t (lt-ltb before x m) b) refl

-- ---- lines that break no rule: each obeys it, and the numbers rise
module _ (ok : List ℕ → Bool) where
  -- The first line's number is above `before`, the line obeys the rule, and so do those after it.
  lines_ok-cons : (n before : ℕ) (s : List ℕ) → lines_ok ok before (lines (suc n) s) ≡ true
      → (before < number (take 32 s))
      × (ok (take 32 s) ≡ true)
      × (lines_ok ok (number (take 32 s)) (lines n (drop 32 s)) ≡ true)
  unfolding lines_ok lines
  lines_ok-cons n before s h =
      let first = also_l _ _ h in
      (ltb-true _ _ (also_l _ _ first), also_r _ _ first, also_r _ _ h)

  pub lines_ok-each : (n k before : ℕ) (s : List ℕ) → lines_ok ok before (lines n s) ≡ true → k < n
      → (ok (line k s) ≡ true) × (before < number_at k s)
  lines_ok-each zero k before s h l = absurd (not-suc-le-zero l)
  lines_ok-each (suc n) zero before s h l =
      let first = lines_ok-cons n before s h in
      (first.1, first.0)
  lines_ok-each (suc n) (suc k) before s h l =
      let first = lines_ok-cons n before s h in
      let above = first.0 in
      let later = lines_ok-each n k (number (take 32 s)) (drop 32 s) first.2 (omega arith) in
      let higher = later.1 in
      (ap ok (line-suc k s) ∙ later.0, rw (line-suc k s) (omega arith))

  lines_ok-rise : (n j k before : ℕ) (s : List ℕ) → lines_ok ok before (lines n s) ≡ true → j < k → k < n
      → number_at j s < number_at k s
  lines_ok-rise zero j k before s h l m = absurd (not-suc-le-zero m)
  lines_ok-rise (suc n) j zero before s h l m = absurd (not-suc-le-zero l)
  lines_ok-rise (suc n) zero (suc k) before s h l m =
      let after = (lines_ok-cons n before s h).2 in
      rw (line-suc k s) (lines_ok-each n k (number (take 32 s)) (drop 32 s) after (omega arith)).1
  lines_ok-rise (suc n) (suc j) (suc k) before s h l m =
      let after = (lines_ok-cons n before s h).2 in
      let later = lines_ok-rise n j k (number (take 32 s)) (drop 32 s) after (omega arith) (omega arith) in
      rw (line-suc k s, line-suc j s) later

  pub lines_sound-each : (s : List ℕ) (k : ℕ) → lines_sound ok s ≡ true → k < length s / 32
      → ok (line k s) ≡ true
  unfolding lines_sound lines_in
  lines_sound-each s k h l = (lines_ok-each (length s / 32) k 0 s (also_r _ _ h) l).0

  pub rising_lines_sound : (s : List ℕ) → lines_sound ok s ≡ true → Rising s
  unfolding lines_sound lines_in
  rising_lines_sound s h = record {
    few = leb-true _ _ (also_l _ _ h);
    rise = λ j k. lines_ok-rise (length s / 32) j k 0 s (also_r _ _ h);
  }
