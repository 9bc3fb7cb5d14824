-- A line more is a hint more. Assumes nothing.
use Rattle.std.proofs.Common.{◌≡◌, ℕ, ◌+◌, ◌/◌, ◌%◌, List, length, set, sym, refl, ap, ◌∙◌, ap₂, add-one}
use Rattle.rules.specs.Bytes.{line}
use Rattle.rules.specs.Fields.{number}
use Rattle.rules.specs.Hints.{hinted, hints_in}

pub hinted-zero : (s t : List ℕ) → t ≡ hinted 0 s t
unfolding hinted
hinted-zero s t = refl

pub hinted_next : (n : ℕ) (s t : List ℕ) {x : ℕ} {l : List ℕ} → x ≡ number (line n s) % 1024 → l ≡ hinted n s t
    → set l x n ≡ hinted (n + 1) s t
unfolding hinted
hinted_next n s t e q =
    ap₂ (λ (l : List ℕ) (x : ℕ). set l x n) q e ∙ ap (λ (m : ℕ). hinted m s t) (sym (add-one n))

pub hints_in-all : (n : ℕ) (s t : List ℕ) → n ≡ length s / 32 → hinted n s t ≡ hints_in s t
unfolding hints_in
hints_in-all n s t e = ap (λ (m : ℕ). hinted m s t) e
