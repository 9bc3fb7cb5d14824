-- Whether a refusal is told: programs end by it. RULES, "Programs".
--
--     begins w t       t begins with w
--     tells first t    a line of t tells a refusal, where t begins a line if it is first
--     has_refusal t    a line of t tells a refusal
--
-- Laws: proofs/RefusalLaws.antt. Definitions only.
use Rattle.std.specs.Prelude.{ℕ, Bool, true, false, List, [], ◌∷◌, nat_eq}
use Rattle.choice.specs.Tests.{◌also◌, ◌either◌}
use Rattle.text.specs.Words.{ascii}

unfoldable pub begins : List ℕ → List ℕ → Bool
begins [] t = true
begins (x ∷ w) [] = false
begins (x ∷ w) (y ∷ t) = nat_eq y x also begins w t

-- After a newline, byte 10, a line begins.
unfoldable pub tells : Bool → List ℕ → Bool
tells first [] = false
tells first (x ∷ t) = (first also begins (ascii "refused ") (x ∷ t)) either tells (nat_eq x 10) t

unfoldable pub has_refusal : List ℕ → Bool
has_refusal t = tells true t
