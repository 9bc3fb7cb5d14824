-- Unit or fuel lines that break no rule, told of each line and of each two, and not by a scan. RULES,
-- "The book".
--
--     RightLines ok s    the lines of s are at most `most_lines`, each passes `ok`, and their numbers are
--                        above 0 and rise strictly
--
-- Laws: proofs/RightLaws.antt. Definitions only.
use Rattle.std.specs.Prelude.{◌≡◌, ℕ, ◌/◌, ◌<◌, ◌≤◌, Bool, true, List, length}
use Rattle.rules.specs.Bytes.{line}
use Rattle.rules.specs.Fields.{number}
use Rattle.rules.specs.Book.{most_lines}

pub record RightLines (ok : List ℕ → Bool) (s : List ℕ) : Type 0 where
  pub few : length s / 32 ≤ most_lines
  pub each : (k : ℕ) → k < length s / 32 → ok (line k s) ≡ true
  pub above : (k : ℕ) → k < length s / 32 → 0 < number (line k s)
  pub rise : (j k : ℕ) → j < k → k < length s / 32 → number (line j s) < number (line k s)
