-- The lowest number of which a test holds: it holds there, and of none before. Assumes nothing.
use Prim.Native.Nat.{ℕ, zero, suc, ◌<◌, ◌≤◌}
use mathlib.Core.Bool.{Bool, true, false}
use mathlib.Core.Path.{◌≡◌, refl, ap, ◌∙◌}
use native.Mathlib.Omega.{arith}
use Rattle.choice.proofs.Splitting.{if_test}
use Rattle.choice.proofs.TestsLaws.{choose_t, choose_f}
use Rattle.queue.specs.Slots.{lowest}

lowest_here : (p : ℕ → Bool) (n : ℕ) → p 0 ≡ true → lowest p (suc n) ≡ 0
unfolding lowest
lowest_here p n t = choose_t (suc (lowest (λ i. p (suc i)) n)) t refl

lowest_on : (p : ℕ → Bool) (n : ℕ) → p 0 ≡ false → lowest p (suc n) ≡ suc (lowest (λ i. p (suc i)) n)
unfolding lowest
lowest_on p n f = choose_f 0 f refl

pub lowest_unique : (p : ℕ → Bool) (n k : ℕ) → k < n → p k ≡ true → ((j : ℕ) → j < k → p j ≡ false)
    → lowest p n ≡ k
lowest_unique p zero k l t none = absurd (omega arith)
lowest_unique p (suc n) zero l t none = lowest_here p n t
lowest_unique p (suc n) (suc k) l t none =
    lowest_on p n (none 0 (omega arith))
    ∙ ap suc (lowest_unique (λ i. p (suc i)) n k (omega arith) t (λ j m. none (suc j) (omega arith)))

pub lowest-none : (p : ℕ → Bool) (n : ℕ) → ((j : ℕ) → j < n → p j ≡ false) → lowest p n ≡ n
unfolding lowest
lowest-none p zero none = refl
lowest-none p (suc n) none =
    lowest_on p n (none 0 (omega arith))
    ∙ ap suc (lowest-none (λ i. p (suc i)) n (λ j m. none (suc j) (omega arith)))

pub lowest-true : (p : ℕ → Bool) (n : ℕ) → lowest p n < n → p (lowest p n) ≡ true
lowest-true p zero l = absurd (omega arith)
lowest-true p (suc n) l =
    if_test (p 0)
    (λ t. ap p (lowest_here p n t) ∙ t)
    (λ f.
    let on = lowest_on p n f in
    ap p on ∙ lowest-true (λ i. p (suc i)) n (omega arith))

pub lowest-false : (p : ℕ → Bool) (n j : ℕ) → j < lowest p n → p j ≡ false
unfolding lowest
lowest-false p zero j l = absurd (omega arith)
lowest-false p (suc n) j l =
    if_test (p 0)
    (λ t. let here = lowest_here p n t in absurd (omega arith))
    (λ f. further p n j f (let on = lowest_on p n f in omega arith) (λ i. lowest-false (λ i. p (suc i)) n i))
  where
    further : (p : ℕ → Bool) (n j : ℕ) → p 0 ≡ false → j < suc (lowest (λ i. p (suc i)) n)
        → ((i : ℕ) → i < lowest (λ i. p (suc i)) n → p (suc i) ≡ false) → p j ≡ false
    further p n zero f l rest = f
    further p n (suc j) f l rest = rest j (omega arith)

-- It is no later than any number of which the test holds.
pub lowest-le : (p : ℕ → Bool) (n k : ℕ) → p k ≡ true → lowest p n ≤ k
unfolding lowest
lowest-le p zero k t = omega arith
lowest-le p (suc n) zero t = omega (arith, lowest_here p n t)
lowest-le p (suc n) (suc k) t =
    if_test (p 0)
    (λ t₀. omega (arith, lowest_here p n t₀))
    (λ f.
    let on = lowest_on p n f in
    let rest = lowest-le (λ i. p (suc i)) n k t in
    omega arith)
