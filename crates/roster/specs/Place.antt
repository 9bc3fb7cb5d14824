-- The text that keeps the place in the round, and the place that it keeps. RULES, "List of plants".
--
--     kept i t             the list t turned round, so that its line i stands last
--     none                 the place if no line of the kept text is in the list: a round begins at slot 0
--     place_from p ls ks   the index in ls of the last of ks that is one of ls; p, if there is none
--     placed t k           the place in the list t that the text k keeps
--
-- Laws: proofs/PlaceLaws.antt. Definitions only.
use Rattle.std.specs.Prelude.{ℕ, suc, List, [], ◌∷◌, ◌++◌}
use Rattle.roster.specs.Lines.{lines_of, after, through}
use Rattle.roster.specs.Plants.{index_from}

unfoldable pub kept : ℕ → List ℕ → List ℕ
kept i t = after (suc i) t ++ through (suc i) t

abbrev pub none : ℕ
none = 15

unfoldable pub place_from : ℕ → List (List ℕ) → List (List ℕ) → ℕ
place_from p ls [] = p
place_from p ls (k ∷ ks) = place_from (index_from 0 p k ls) ls ks

unfoldable pub placed : List ℕ → List ℕ → ℕ
placed t k = place_from none (lines_of t) (lines_of k)
