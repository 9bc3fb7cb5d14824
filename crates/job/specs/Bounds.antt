-- Bounds that the code counts on. These serve the code; the definitions of the calls don't need them.
--
--     CountsFit h c        the counts c are within what the soundness of a checkpoint allows
--     FitFor h s           so are the counts and the masses of s
--
-- Laws: proofs/StateLaws.antt. Definitions only.
use Rattle.std.specs.Prelude.{ℕ, ◌*◌, ◌/◌, ◌<◌, ◌≤◌, ◌≡◌, length}
use Rattle.mass.specs.Ledger.{tonne, tonnes_each}
use Rattle.rules.specs.declared.book.Head.{Head}
use Rattle.rules.specs.Record.{last_reason}
use Rattle.job.specs.declared.counts.Counts.{Counts}
use Rattle.job.specs.State.{State, ledgers, mass}

pub record CountsFit (h : Head) (c : Counts) : Type 0 where
  pub done_le : c.done ≤ h.n
  pub aside_le : c.aside ≤ c.done
  pub none_first : c.aside ≡ 0 → (c.index ≡ 0) × (c.reason ≡ 0)
  pub some_first : (c.aside ≡ 0 → ⊥) → (c.index < c.done) × (1 ≤ c.reason) × (c.reason ≤ last_reason)

pub record FitFor (h : Head) (s : State) : Type 0 where
  pub counts_fit : CountsFit h s.counts
  pub whole : length s.masses ≡ ledgers
  pub masses_le : (i : ℕ) → i < ledgers → mass s.masses i / tonne ≤ tonnes_each * s.counts.done
