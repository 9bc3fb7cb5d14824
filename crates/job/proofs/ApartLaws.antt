-- Books that differ in the set of warming values alone are worked alike: starts, wakes and counts reply alike and
-- write the same bytes, whatever the checkpoint, and a history of one is a history of the other. Assumes nothing.
use Prim.Native.Nat.{ℕ, zero, suc, ◌+◌, ◌≤◌}
use mathlib.Core.Bool.{true}
use mathlib.Core.List.{List, []}
use mathlib.Core.Path.{◌≡◌, refl, sym, ap, ◌∙◌}
use native.Mathlib.Omega.{arith}
use lib.Dec.{eqb}
use lib.ListN.{length}
use Rattle.choice.specs.Tests.{choose}
use Rattle.choice.proofs.Splitting.{if_test, if_eq}
use Rattle.rules.specs.declared.book.Head.{Head}
use Rattle.rules.specs.Fields.{warming_set}
use Rattle.rules.specs.Book.{refused, accepted, trailer, opened, SetApart}
use Rattle.rules.specs.Record.{outcome_at}
use Rattle.rules.proofs.ApartLaws.{naming, opened-apart, outcome_at-apart}
use Rattle.job.specs.State.{State, fresh, after, run}
use Rattle.job.specs.Checkpoint.{checkpoint_size, sound, decode, encode}
use Rattle.job.specs.Reply.{reply}
use Rattle.job.specs.Wake.{if_open, fresh_admitted, fresh_reply, fresh_bytes, admitted, wake_admitted, moves, wake_reply, wake_bytes}
use Rattle.job.specs.Report.{left_reply}
use Rattle.job.specs.History.{Starts, Wakes, History}
use Rattle.job.proofs.StateLaws.{run_done}
use Rattle.job.proofs.CheckpointLaws.{fit_for_sound}
use Rattle.job.proofs.WakeLaws.{if_open-refused, if_open-accepted, admitted_for_30, admitted_for_31, admitted_for-sound, admitted_open}

module _ {k k' : List ℕ} {h : Head} (apart : SetApart k k') (e : opened k ≡ accepted h) (named : warming_set (trailer k') ≤ 1) where
  abbrev h' : Head
  h' = naming (warming_set (trailer k')) h

  e' : opened k' ≡ accepted h'
  e' = opened-apart apart e named

  -- ---- records in turn
  run-apart : (s : State) (m : ℕ) → s.counts.done + m ≤ h.n → run h' k' s m ≡ run h k s m
  unfolding run
  run-apart s zero l = refl
  run-apart s (suc m) l =
      let before = run-apart s m (omega arith) in
      let here : (run h k s m).counts.done + 1 ≤ h.n = omega (arith, run_done h k s m) in
      (λ i. after (before i) (outcome_at h' k' (before i).counts.done))
      ∙ ap (after (run h k s m)) (outcome_at-apart apart e _ (run h k s m).counts.done (omega arith))

  -- ---- a fresh start
  module _ {A : Type 0} (refuse : ℕ → A) (go go' : Head → A) where
    fresh_admitted-apart : (out : List ℕ) → go' h' ≡ go h → fresh_admitted k' out refuse go' ≡ fresh_admitted k out refuse go
    unfolding fresh_admitted
    fresh_admitted-apart out same =
        if_open-accepted (opened k') refuse _ e'
        ∙ ap (λ (x : A). choose (eqb (length out) checkpoint_size) x (refuse 32)) same
        ∙ sym (if_open-accepted (opened k) refuse _ e)

    -- ---- a checkpoint is sound for both books or for neither
    admitted-apart : (c : List ℕ) → (sound h c ≡ true → go' h' ≡ go h)
        → if_open (admitted k' c) refuse go' ≡ if_open (admitted k c) refuse go
    unfolding sound
    admitted-apart c same =
        let here = admitted_open k c e in
        let there = admitted_open k' c e' in
        if_eq (length c) checkpoint_size
        (λ l. if_test (sound h c)
        (λ s.
        if_open-accepted (admitted k' c) refuse go' (there ∙ admitted_for-sound h' c l s)
        ∙ same s
        ∙ sym (if_open-accepted (admitted k c) refuse go (here ∙ admitted_for-sound h c l s)))
        (λ s. both_refused c (here ∙ admitted_for_31 h c l s) (there ∙ admitted_for_31 h' c l s)))
        (λ l. both_refused c (here ∙ admitted_for_30 h c l) (there ∙ admitted_for_30 h' c l))
      where
        both_refused : (c : List ℕ) {n : ℕ} → admitted k c ≡ refused n → admitted k' c ≡ refused n
            → if_open (admitted k' c) refuse go' ≡ if_open (admitted k c) refuse go
        both_refused c p q =
            if_open-refused (admitted k' c) refuse go' q ∙ sym (if_open-refused (admitted k c) refuse go p)

  pub fresh_reply-apart : (out : List ℕ) → fresh_reply k' out ≡ fresh_reply k out
  unfolding fresh_reply
  fresh_reply-apart out = fresh_admitted-apart (λ n. reply n []) (λ x. reply 0 []) _ out refl

  pub fresh_bytes-apart : (out : List ℕ) → fresh_bytes k' out ≡ fresh_bytes k out
  unfolding fresh_bytes encode
  fresh_bytes-apart out = fresh_admitted-apart (λ n. out) (λ x. encode x fresh) _ out refl

  -- ---- a wake and a count
  module _ (c : List ℕ) where
    pub wake_reply-apart : (b : ℕ) (out : List ℕ) → wake_reply k' c b out ≡ wake_reply k c b out
    unfolding wake_reply wake_admitted moves
    wake_reply-apart b out = admitted-apart _ _ _ c (λ s. refl)

    pub wake_bytes-apart : (b : ℕ) (out : List ℕ) → wake_bytes k' c b out ≡ wake_bytes k c b out
    unfolding wake_bytes wake_admitted moves encode decode
    wake_bytes-apart b out = admitted-apart _ _ _ c (λ s.
        let few = (fit_for_sound h c s).counts_fit.done_le in
        let same = run-apart (decode c) (moves h c b) (omega arith) in
        ap (λ (x : State). choose (eqb (length out) checkpoint_size) (encode h x) out) same)

    pub left_reply-apart : left_reply k' c ≡ left_reply k c
    unfolding left_reply
    left_reply-apart = admitted-apart _ _ _ c (λ s. refl)

  -- ---- histories
  starts_apart : {c : List ℕ} → Starts k c → Starts k' c
  starts_apart s = record {
    out = s.out;
    accepts = fresh_reply-apart s.out ∙ s.accepts;
    saves = s.saves ∙ sym (fresh_bytes-apart s.out);
  }

  wakes_apart : {c : List ℕ} {b m : ℕ} {d : List ℕ} → Wakes k c b m d → Wakes k' c b m d
  wakes_apart {c} {b} w = record {
    out = w.out;
    accepts = wake_reply-apart c b w.out ∙ w.accepts;
    saves = w.saves ∙ sym (wake_bytes-apart c b w.out);
  }

  pub history_apart : (cs : List (List ℕ)) → History k cs → History k' cs
  history_apart cs (History.begun s) = History.begun (starts_apart s)
  history_apart cs (History.woken p i w) = History.woken (history_apart _ p) i (wakes_apart w)
