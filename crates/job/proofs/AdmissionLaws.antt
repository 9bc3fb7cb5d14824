-- What is known of a checkpoint that the code has let in, or turned away. Assumes nothing.
use Prim.Native.Nat.{ℕ, ◌≤◌}
use mathlib.Core.Bool.{true}
use mathlib.Core.List.{List}
use Rattle.std.specs.Prelude.{Result, Ok, Err}
use mathlib.Core.Path.{◌≡◌, sym, ap, ◌∙◌}
use lib.Dec.{eqb}
use lib.ListN.{length}
use borrow.Author.Tests.{eqb-true}
use Rattle.rules.specs.declared.book.Head.{Head}
use Rattle.rules.specs.Book.{refused, accepted}
use Rattle.rules.proofs.NumberLaws.{refused-accepted, passed}
use Rattle.job.specs.declared.reply.Refusal.{Refusal}
use Rattle.job.specs.Checkpoint.{checkpoint_size, done_in, sound, decode}
use Rattle.job.specs.Reply.{refusal_number}
use Rattle.job.specs.Wake.{admitted_for}
use Rattle.job.specs.Admission.{admission}
use Rattle.job.proofs.CheckpointLaws.{fit_for_sound}

module _ (h : Head) (c : List ℕ) where
  pub admitted_for-whole : admitted_for h c ≡ accepted h → length c ≡ checkpoint_size
  unfolding admitted_for
  admitted_for-whole e = eqb-true _ _ (passed (eqb (length c) checkpoint_size) e (refused-accepted 30 h)).0

  pub admitted_for_so : admitted_for h c ≡ accepted h → sound h c ≡ true
  unfolding admitted_for
  admitted_for_so e =
      let whole = passed (eqb (length c) checkpoint_size) e (refused-accepted 30 h) in
      (passed (sound h c) whole.1 (refused-accepted 31 h)).0

  -- Of the records of its book.
  pub admitted_for-done : admitted_for h c ≡ accepted h → done_in c ≤ h.n
  unfolding decode
  admitted_for-done e = (fit_for_sound h c (admitted_for_so e)).counts_fit.done_le

  -- ---- by the code's answer
  pub admitted_for-refused : {r : Result (Unit {0}) Refusal} {x : Refusal} → admission h r ≡ admitted_for h c → r ≡ Err x
      → admitted_for h c ≡ refused (refusal_number x)
  unfolding admission
  admitted_for-refused e q = sym e ∙ ap (admission h) q

  pub admitted_for-accepted : {r : Result (Unit {0}) Refusal} → admission h r ≡ admitted_for h c → r ≡ Ok tt
      → admitted_for h c ≡ accepted h
  unfolding admission
  admitted_for-accepted e q = sym e ∙ ap (admission h) q
