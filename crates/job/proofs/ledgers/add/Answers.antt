-- The digits are those of the definition, whether or not the sum is carried.
use Rattle.std.proofs.Common.{ℕ, ◌≡◌, ◌+◌, ◌-◌, ◌<◌, List, refl, sym, ap, ◌∙◌, arith, set, get_or, get_or-set_other}
use borrow.Author.Tests.{lt-ltb, le-ltb}
use Rattle.choice.proofs.TestsLaws.{choose_t, choose_f}
use Rattle.job.specs.State.{ledgers}
use Rattle.job.specs.Words.{full, low_at, high_at, added}
use Rattle.job.proofs.ledgers.add.Goals as goal

-- A high digit, once its low one is set.
high : (w : List ℕ) (k v : ℕ) → k < ledgers → get_or (set w k v) (ledgers + k) 0 ≡ high_at w k
high w k v l = get_or-set_other w k (ledgers + k) v 0 (λ e. omega arith)

pub returns-then-sum-lt-HALF : goal.returns-then-sum-lt-HALF
unfolding added
returns-then-sum-lt-HALF c = record { added = sym (choose_t _ (lt-ltb _ _ c.if-sum-lt-HALF.true) refl) }

pub returns : goal.returns
unfolding added
returns c =
    let a = c.args in
    let low = low_at a.w.now a.k + a.x - full in
    record {
      added =
          ap (λ (v : ℕ). set (set a.w.now a.k low) (ledgers + a.k) (v + 1)) (high a.w.now a.k low c.requires.whole.1)
          ∙ sym (choose_f _ (le-ltb _ _ c.if-sum-lt-HALF.false) refl);
    }
