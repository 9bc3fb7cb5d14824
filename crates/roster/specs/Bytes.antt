-- Runs of bytes, cut at a byte and compared.
--
--     span b xs      how many bytes of xs stand before the first b; all, if there is none
--     front b xs     the bytes before the first b; all, if there is none
--     rest b xs      the bytes after the first b; nothing, if there is none
--     same xs ys     xs and ys are the same bytes
--
-- Laws: proofs/BytesLaws.antt. Definitions only.
use Rattle.std.specs.Prelude.{ℕ, suc, Bool, true, false, List, [], ◌∷◌, nat_eq, take, drop}
use Rattle.choice.specs.Tests.{◌also◌, choose}

unfoldable pub span : ℕ → List ℕ → ℕ
span b [] = 0
span b (x ∷ xs) = choose (nat_eq x b) 0 (suc (span b xs))

unfoldable pub front : ℕ → List ℕ → List ℕ
front b xs = take (span b xs) xs

unfoldable pub rest : ℕ → List ℕ → List ℕ
rest b xs = drop (suc (span b xs)) xs

unfoldable pub same : List ℕ → List ℕ → Bool
same [] [] = true
same [] (y ∷ ys) = false
same (x ∷ xs) [] = false
same (x ∷ xs) (y ∷ ys) = nat_eq x y also same xs ys
