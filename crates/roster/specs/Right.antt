-- What the promises say of a list's lines; no contract needs it. RULES, "List of plants".
--
--     RightUpTo t i      the first i lines of t are right
--
-- Laws: proofs/ToldLaws.antt. Definitions only.
use Rattle.std.specs.Prelude.{ℕ, ◌<◌, ◌≤◌, true, List, ◌≡◌, length}
use Rattle.roster.specs.Lines.{lines_of, line_at}
use Rattle.roster.specs.Plants.{most_plants, checkpoint_of, is_plant}

pub record RightUpTo (t : List ℕ) (i : ℕ) : Type 0 where
  -- There are so many lines, and at most 16.
  pub there : i ≤ length (lines_of t)
  pub few : i ≤ most_plants
  -- Each is a plant's,
  pub plants : (k : ℕ) → k < i → is_plant (line_at k t) ≡ true
  -- and none names a CHECKPOINT that an earlier line names.
  pub apart : (j k : ℕ) → j < k → k < i → checkpoint_of (line_at j t) ≡ checkpoint_of (line_at k t) → ⊥
