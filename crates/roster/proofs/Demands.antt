-- What `roster` promises, as theorems. Read this file first.
--
-- t and u are lists of plants, i and j lines of them counted from 0, k any bytes that may have been saved.
-- The code gives `verdict_on t`, `line_at i t`, `book_of`, `checkpoint_of` and `mistake_in` of a line, `after i t` and
-- `through i t`, and `placed t k`: those are its contracts, taken over below with their proofs. A program that serves
-- plant i saves `kept i t`, which is `after (suc i) t` and then `through (suc i) t`.
--
-- Assumes nothing.
use Prim.Native.Nat.{ℕ, ◌<◌}
use mathlib.Core.Bool.{true, false}
use mathlib.Core.List.{List, [], ◌∷◌, ◌++◌, Memᴰ}
use mathlib.Core.Logic.{◌↔◌}
use mathlib.Core.Path.{◌≡◌, refl}
use lib.ListN.{length}
use Rattle.std.specs.Prelude.{Ok, Err}
use Rattle.roster.specs.declared.plants.Fault.TheVariants.{Wrong, Again, Many}
use Rattle.roster.specs.Lines.{lines_of, line_at, after, through}
use Rattle.roster.specs.Plants.{checkpoint_of, is_plant, verdict_on}
use Rattle.roster.specs.Right.{RightUpTo}
use Rattle.roster.specs.Place.{kept, placed}
use Rattle.roster.proofs.LinesLaws.{through-after}
use Rattle.roster.proofs.ToldLaws.{verdict_on↔says}
use Rattle.roster.proofs.PlaceLaws.{placed_last, placed-none, placed-kept, placed-lt}
-- The code meets its contracts.
pub use Rattle.roster.proofs.lines.take_line.Met.{met as take-line-meets-its-contract}
pub use Rattle.roster.proofs.lines.take_after.Met.{met as take-after-meets-its-contract}
pub use Rattle.roster.proofs.lines.take_through.Met.{met as take-through-meets-its-contract}
pub use Rattle.roster.proofs.plants.judge.Met.{met as judge-meets-its-contract}
pub use Rattle.roster.proofs.plants.take_book.Met.{met as take-book-meets-its-contract}
pub use Rattle.roster.proofs.plants.take_checkpoint.Met.{met as take-checkpoint-meets-its-contract}
pub use Rattle.roster.proofs.mistake.find.Met.{met as find-mistake-meets-its-contract}
pub use Rattle.roster.proofs.place.find.Met.{met as find-meets-its-contract}

-- ---- 1. What is told of a list is what is true of it. `RightUpTo t i` (specs/Right.antt) is that its first i
-- lines, at most 16, are plants' lines and name i CHECKPOINTs.
pub record Told (t : List ℕ) : Type 0 where
  -- It is right: nothing stands after n right lines.
  pub right : (n : ℕ) → (verdict_on t ≡ Ok n) ↔ (RightUpTo t n × (after n t ≡ []))
  -- Else the first fault is told. What stands after i right lines is no plant's line; unended text is no line.
  pub wrong : (i : ℕ)
      → (verdict_on t ≡ Err (Wrong i))
      ↔ (RightUpTo t i × (i < 16) × (0 < length (after i t)) × (is_plant (line_at i t) ≡ false))
  -- It is one, but some line j before it names the same CHECKPOINT.
  pub again : (i : ℕ)
      → (verdict_on t ≡ Err (Again i))
      ↔ (RightUpTo t i
      × (i < 16)
      × (is_plant (line_at i t) ≡ true)
      × ((j : ℕ) × (j < i) × (checkpoint_of (line_at j t) ≡ checkpoint_of (line_at i t))))
  -- Something stands after 16 right lines.
  pub many : (verdict_on t ≡ Err Many) ↔ (RightUpTo t 16 × (0 < length (after 16 t)))

pub told : (t : List ℕ) → Told t
told t = record {
  right = λ n. verdict_on↔says t (Ok n);
  wrong = λ i. verdict_on↔says t (Err (Wrong i));
  again = λ i. verdict_on↔says t (Err (Again i));
  many = verdict_on↔says t (Err Many);
}

-- ---- 2. After a kill the round goes on behind the plant that was being served.
pub goes_on : (t : List ℕ) (n : ℕ) → verdict_on t ≡ Ok n → (i : ℕ) → i < n → placed t (kept i t) ≡ i
goes_on t n e i l = placed-kept t n e i l t n e i l refl

-- ---- 3. The list may have been edited meanwhile. Of a list u of m plants, whatever bytes k were kept:
pub record Place (u : List ℕ) (m : ℕ) (k : List ℕ) : Type 0 where
  -- The last line of k that is in u counts, where it stands in u; the lines after it are passed over.
  pub last_listed : (before gone : List (List ℕ)) (line : List ℕ) → lines_of k ≡ before ++ line ∷ gone
      → ((l : List ℕ) → Memᴰ l gone → Memᴰ l (lines_of u) → ⊥)
      → (j : ℕ) → j < m → line_at j u ≡ line → placed u k ≡ j
  -- If none is, the round begins at slot 0.
  pub none_listed : ((l : List ℕ) → Memᴰ l (lines_of k) → Memᴰ l (lines_of u) → ⊥) → placed u k ≡ 15
  -- The place is a slot of the queue.
  pub slot : placed u k < 16

pub place : (u : List ℕ) (m : ℕ) → verdict_on u ≡ Ok m → (k : List ℕ) → Place u m k
place u m e k = record {
  last_listed = placed_last u m e k;
  none_listed = placed-none u k;
  slot = placed-lt u m e k;
}

-- So the plant that was being served as line i of t is found where it stands now.
pub goes_on_behind : (t : List ℕ) (n : ℕ) → verdict_on t ≡ Ok n → (i : ℕ) → i < n
    → (u : List ℕ) (m : ℕ) → verdict_on u ≡ Ok m → (j : ℕ) → j < m
    → line_at j u ≡ line_at i t → placed u (kept i t) ≡ j
goes_on_behind = placed-kept

-- ---- 4. What is kept is the whole list, turned round: its two parts make it up.
pub nothing_lost : (i : ℕ) (t : List ℕ) → through i t ++ after i t ≡ t
nothing_lost = through-after
