-- The reply to a report and to a count, one case at a time. Assumes nothing.
use Prim.Native.Nat.{ℕ, ◌+◌, ◌-◌, ◌*◌, ◌<◌, ◌≤◌}
use mathlib.Core.Bool.{true, false}
use mathlib.Core.List.{List, [], ◌∷◌}
use mathlib.Core.Logic.{◌↔◌}
use mathlib.Core.Path.{◌≡◌, refl, ap, ◌∙◌}
use native.Mathlib.Omega.{arith}
use lib.Dec.{eqb, lit≤}
use lib.ListN.{length}
use borrow.Author.Tests.{lt-ltb, le-ltb}
use Rattle.choice.specs.Tests.{choose}
use Rattle.choice.proofs.TestsLaws.{choose_t, choose_f, if_choose, worked-out}
use Rattle.choice.proofs.Splitting.{if_lt, if_eq}
use Rattle.mass.specs.declared.figures.Figures.{Figures}
use Rattle.mass.specs.Figures.{Mild, kg_of, must_report}
use Rattle.mass.proofs.FiguresLaws.{figures_of-ledgers}
use Rattle.rules.specs.declared.book.Head.{Head}
use Rattle.rules.specs.Book.{Answer, refused, accepted, opened}
use Rattle.job.specs.State.{mass, State, fossil, biomass, ch4, n2o}
use Rattle.job.specs.Checkpoint.{checkpoint_size, done_in, sound, decode}
use Rattle.job.specs.Reply.{reply, figure_values}
use Rattle.job.specs.Report.{warming_of, figures_at, reply_at, report_reply, left_reply}
use Rattle.job.specs.Wake.{if_open, admitted_for, admitted}
use Rattle.job.specs.Admission.{report_for, left_for}
use Rattle.job.proofs.ReplyLaws.{refused_0}
use Rattle.job.proofs.WakeLaws.{if_open-refused, if_open-accepted}
use Rattle.job.proofs.WakeLaws.{admitted_for_30, admitted_for_31, admitted_for-sound, admitted_book, admitted_open}

-- ---- a report and a count of an opened book
module _ (h : Head) (c : List ℕ) where
  pub report_for-refused : {n : ℕ} → admitted_for h c ≡ refused n → report_for h c ≡ reply n []
  unfolding report_for
  report_for-refused e = if_open-refused (admitted_for h c) (λ n. reply n []) _ e

  pub report_for-sound : admitted_for h c ≡ accepted h → report_for h c ≡ reply_at h (decode c)
  unfolding report_for
  report_for-sound e = if_open-accepted (admitted_for h c) (λ n. reply n []) _ e

  pub left_for-refused : {n : ℕ} → admitted_for h c ≡ refused n → left_for h c ≡ reply n []
  unfolding left_for
  left_for-refused e = if_open-refused (admitted_for h c) (λ n. reply n []) _ e

  pub left_for-sound : admitted_for h c ≡ accepted h → left_for h c ≡ reply 0 ((h.n - done_in c) ∷ [])
  unfolding left_for
  left_for-sound e = if_open-accepted (admitted_for h c) (λ n. reply n []) _ e

-- ---- a report and a count
module _ (k c : List ℕ) where
  pub report_reply_book : {n : ℕ} → opened k ≡ refused n → report_reply k c ≡ reply n []
  unfolding report_reply
  report_reply_book e = if_open-refused (admitted k c) (λ n. reply n []) _ (admitted_book k c e)

  pub left_reply_book : {n : ℕ} → opened k ≡ refused n → left_reply k c ≡ reply n []
  unfolding left_reply
  left_reply_book e = if_open-refused (admitted k c) (λ n. reply n []) _ (admitted_book k c e)

  module _ {h : Head} (e : opened k ≡ accepted h) where
    pub report_reply_open : report_reply k c ≡ report_for h c
    unfolding report_reply report_for
    report_reply_open = ap (λ (a : Answer). if_open a (λ n. reply n []) (λ x. reply_at x (decode c))) (admitted_open k c e)

    pub left_reply_open : left_reply k c ≡ left_for h c
    unfolding left_reply left_for
    left_reply_open =
        ap (λ (a : Answer). if_open a (λ n. reply n []) (λ x. reply 0 ((x.n - done_in c) ∷ [])))
        (admitted_open k c e)

    pub report_reply_30 : (length c ≡ checkpoint_size → ⊥) → report_reply k c ≡ reply 30 []
    report_reply_30 l = report_reply_open ∙ report_for-refused h c (admitted_for_30 h c l)

    pub left_reply_30 : (length c ≡ checkpoint_size → ⊥) → left_reply k c ≡ reply 30 []
    left_reply_30 l = left_reply_open ∙ left_for-refused h c (admitted_for_30 h c l)

    module _ (l : length c ≡ checkpoint_size) where
      pub report_reply_31 : sound h c ≡ false → report_reply k c ≡ reply 31 []
      report_reply_31 s = report_reply_open ∙ report_for-refused h c (admitted_for_31 h c l s)

      pub left_reply_31 : sound h c ≡ false → left_reply k c ≡ reply 31 []
      left_reply_31 s = left_reply_open ∙ left_for-refused h c (admitted_for_31 h c l s)

      pub report_reply_at : sound h c ≡ true → report_reply k c ≡ reply_at h (decode c)
      report_reply_at s = report_reply_open ∙ report_for-sound h c (admitted_for-sound h c l s)

      pub left_reply_at : sound h c ≡ true → left_reply k c ≡ reply 0 ((h.n - done_in c) ∷ [])
      left_reply_at s = left_reply_open ∙ left_for-sound h c (admitted_for-sound h c l s)

-- ---- the sets of warming values
pub warming_of-first : warming_of 0 ≡ record { ch4 = 21; n2o = 310 }
unfolding warming_of
warming_of-first = simp worked-out

pub warming_of_second : warming_of 1 ≡ record { ch4 = 25; n2o = 298 }
unfolding warming_of
warming_of_second = simp worked-out

pub mild_warming_of : (w : ℕ) → Mild (warming_of w)
unfolding warming_of
mild_warming_of w =
    if_choose Mild (eqb w 0)
    (λ first. record { ch4_le = lit≤ tt; n2o_le = lit≤ tt })
    (λ second. record { ch4_le = lit≤ tt; n2o_le = lit≤ tt })

-- ---- at a state
module _ (h : Head) (s : State) where
  pub reply_at_40 : s.counts.done < h.n → reply_at h s ≡ reply 40 (s.counts.done ∷ [])
  unfolding reply_at
  reply_at_40 l = choose_t _ (lt-ltb s.counts.done h.n l) refl

  pub reply_at_41 : s.counts.done ≡ h.n → (s.counts.aside ≡ 0 → ⊥) → reply_at h s ≡ reply 41 (s.counts.index ∷ s.counts.reason ∷ [])
  unfolding reply_at
  reply_at_41 l z =
      choose_f _ (le-ltb s.counts.done h.n (omega arith)) (choose_t _ (lt-ltb 0 s.counts.aside (omega arith)) refl)

  -- Each figure from its own exact mass, and the decision on exact masses.
  pub reply_at_0 : s.counts.done ≡ h.n → s.counts.aside ≡ 0
      → let w = warming_of h.warming in
      let m = s.masses in
      let e = mass m fossil + mass m biomass + w.ch4 * mass m ch4 + w.n2o * mass m n2o in
      reply_at h s
      ≡ reply 0 ((kg_of (mass m fossil)).0 ∷ (kg_of (mass m biomass)).0 ∷ (kg_of (mass m ch4)).0 ∷ (kg_of (mass m n2o)).0 ∷ (kg_of e).0
      ∷ choose (must_report e (mass m biomass)) 1 0 ∷ [])
  unfolding reply_at figures_at figure_values
  reply_at_0 l z =
      let m = s.masses in
      choose_f _ (le-ltb s.counts.done h.n (omega arith)) (choose_f _ (le-ltb 0 s.counts.aside (omega arith)) refl)
      ∙ ap (λ (f : Figures). reply 0 (figure_values f))
      (figures_of-ledgers (mass m fossil) (mass m biomass) (mass m ch4) (mass m n2o) (warming_of h.warming))

  -- Figures are given exactly when the book is finished and no record was set aside.
  pub reply_at_exactly : s.counts.done ≤ h.n
      → ((vs : List ℕ) × (reply_at h s ≡ reply 0 vs)) ↔ ((s.counts.done ≡ h.n) × (s.counts.aside ≡ 0))
  reply_at_exactly few = (
    λ g.
        if_lt s.counts.done h.n (λ l. absurd (refused_0 g.1 (reply_at_40 l) (omega arith))) (λ l.
        let end : s.counts.done ≡ h.n = omega arith in
        if_eq s.counts.aside 0 (λ z. (end, z)) (λ z. absurd (refused_0 g.1 (reply_at_41 end z) (omega arith)))),
    λ q. (_, reply_at_0 q.0 q.1),
  )
