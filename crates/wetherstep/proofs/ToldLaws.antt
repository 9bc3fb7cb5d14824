-- A C caller reads every reply of the calls back from the word and the figures, so that nothing
-- is lost on the way; and by the number alone it knows that nothing was written. Assumes nothing.
use Prim.Native.Nat.{ℕ, zero, suc, ◌<◌, ◌≤◌}
use mathlib.Core.Bool.{Bool, true, false}
use mathlib.Core.List.{List, [], ◌∷◌}
use mathlib.Core.Path.{◌≡◌, refl, sym, ap, ◌∙◌, subst}
use native.Mathlib.Omega.{arith}
use lib.Dec.{eqb, lit<, lit≤}
use lib.ListN.{length}
use borrow.Author.Tests.{ne_eqb}
use Rattle.choice.proofs.Splitting.{if_test, if_lt, if_eq}
use Rattle.choice.proofs.TestsLaws.{choose_t, choose_f}
use Rattle.rules.specs.declared.book.Head.{Head}
use Rattle.rules.specs.Book.{Answer, refused, accepted, opened}
use Rattle.job.specs.Checkpoint.{sound, decode}
use Rattle.job.specs.Reply.{Reply, reply}
use Rattle.job.specs.Wake.{fresh_reply, fresh_bytes, wake_reply, wake_bytes}
use Rattle.job.specs.Report.{report_reply, reply_at, left_reply}
use Rattle.job.proofs.CheckpointLaws.{fit_for_sound}
use Rattle.job.proofs.ReportLaws.{report_reply_at, reply_at_40, reply_at_41, reply_at_0}
use Rattle.job.proofs.Demands.{demand1}
use Rattle.wetherstep.specs.Face.{packed, word_of, figures_after}
use Rattle.wetherstep.specs.Told.{told_number, told_reason, told_count, fresh_told, wake_told, report_told, left_told}
use Rattle.wetherstep.proofs.FaceLaws.{figures_after_six, figures_after-kept}

-- ---- the fields of a word
module _ (n k m d c : ℕ) where
  pub told_number-packed : n < 256 → told_number (packed n k m d c) ≡ n
  unfolding packed told_number
  told_number-packed p = omega arith

  pub told_reason-packed : n < 256 → k < 256 → told_reason (packed n k m d c) ≡ k
  unfolding packed told_reason
  told_reason-packed p q = omega arith

  pub told_count-packed : n < 256 → k < 256 → m < 256 → d < 256 → told_count (packed n k m d c) ≡ c
  unfolding packed told_count
  told_count-packed p q r s = omega arith

-- ---- what holds of every refusal, and of each reply besides, holds of every reply of a call
module _ (P : Reply → Type 0) (refuse : (n : ℕ) → 20 ≤ n → n ≤ 32 → P (reply n [])) (k : List ℕ) where
  by_book : (r : Reply) → ((n : ℕ) → opened k ≡ refused n → r ≡ reply n [])
      → ((h : Head) → opened k ≡ accepted h → P r) → P r
  by_book r says go = at (opened k) refl
    where
      at : (a : Answer) → opened k ≡ a → P r
      at (refused n) e =
          let range = (demand1 k [] 0 []).book_number n e in
          let least = range.0 in
          let most = range.1 in
          subst P (sym (says n e)) (refuse n least (omega arith))
      at (accepted h) e = go h e

  fresh_reply-each : (out : List ℕ) → P (reply 0 []) → P (fresh_reply k out)
  fresh_reply-each out starts =
      let says = demand1 k [] 0 out in
      by_book (fresh_reply k out) (λ n e. (says.refuses_book n e).0) (λ h e.
      if_eq (length out) 96
      (λ o. subst P (sym (says.accepts_fresh h e o)) starts)
      (λ o. subst P (sym (says.refuses_32_fresh h e o)) (refuse 32 (lit≤ tt) (lit≤ tt))))

  by_checkpoint : (c : List ℕ) (r : Reply) → ((n : ℕ) → opened k ≡ refused n → r ≡ reply n [])
      → ((h : Head) → opened k ≡ accepted h → (length c ≡ 96 → ⊥) → r ≡ reply 30 [])
      → ((h : Head) → opened k ≡ accepted h → length c ≡ 96 → sound h c ≡ false → r ≡ reply 31 [])
      → ((h : Head) → opened k ≡ accepted h → length c ≡ 96 → sound h c ≡ true → P r) → P r
  by_checkpoint c r says wrong unsound go =
      by_book r says (λ h e.
      if_eq (length c) 96
      (λ l. if_test (sound h c)
      (λ s. go h e l s)
      (λ s. subst P (sym (unsound h e l s)) (refuse 31 (lit≤ tt) (lit≤ tt))))
      (λ l. subst P (sym (wrong h e l)) (refuse 30 (lit≤ tt) (lit≤ tt))))

  wake_reply-each : (c : List ℕ) (b : ℕ) (out : List ℕ) → ((m : ℕ) → P (reply 0 (m ∷ [])))
      → P (wake_reply k c b out)
  wake_reply-each c b out moves =
      let says = demand1 k c b out in
      by_checkpoint c (wake_reply k c b out) (λ n e. (says.refuses_book n e).1)
      (λ h e l. (says.refuses_30 h e l).0) (λ h e l s. (says.refuses_31 h e l s).0) (λ h e l s.
      if_eq (length out) 96
      (λ o. subst P (sym (says.accepts_wake h e l s o)) (moves _))
      (λ o. subst P (sym (says.refuses_32_wake h e l s o)) (refuse 32 (lit≤ tt) (lit≤ tt))))

  left_reply-each : (c : List ℕ) → ((m : ℕ) → P (reply 0 (m ∷ []))) → P (left_reply k c)
  left_reply-each c counts =
      let says = demand1 k c 0 [] in
      by_checkpoint c (left_reply k c) (λ n e. (says.refuses_book n e).3)
      (λ h e l. (says.refuses_30 h e l).2) (λ h e l s. (says.refuses_31 h e l s).2) (λ h e l s.
      subst P (sym (says.accepts_left h e l s)) (counts _))

  module _ (unfinished : (d : ℕ) → P (reply 40 (d ∷ [])))
      (withheld : (i x : ℕ) → x < 256 → P (reply 41 (i ∷ x ∷ [])))
      (given : (a b c d e m : ℕ) → P (reply 0 (a ∷ b ∷ c ∷ d ∷ e ∷ m ∷ []))) where
    reply_at-each : (h : Head) (c : List ℕ) → sound h c ≡ true → P (reply_at h (decode c))
    reply_at-each h c t =
        let s = decode c in
        let fit = (fit_for_sound h c t).counts_fit in
        let within = fit.done_le in
        if_lt s.counts.done h.n
        (λ l. subst P (sym (reply_at_40 h s l)) (unfinished _))
        (λ l. let ends : s.counts.done ≡ h.n = omega arith in
        if_eq s.counts.aside 0
        (λ z. subst P (sym (reply_at_0 h s ends z)) (given _ _ _ _ _ _))
        (λ z. let few = (fit.some_first z).2 in
        subst P (sym (reply_at_41 h s ends z)) (withheld _ _ (omega arith))))

    report_reply-each : (c : List ℕ) → P (report_reply k c)
    report_reply-each c =
        let says = demand1 k c 0 [] in
        by_checkpoint c (report_reply k c) (λ n e. (says.refuses_book n e).2)
        (λ h e l. (says.refuses_30 h e l).1) (λ h e l s. (says.refuses_31 h e l s).1) (λ h e l s.
        subst P (sym (report_reply_at k c e l s)) (reply_at-each h c s))

-- ---- every reply is read back
test : {x n : ℕ} {t : Bool} (m : ℕ) → x ≡ n → eqb n m ≡ t → eqb x m ≡ t
test m e h = ap (λ (y : ℕ). eqb y m) e ∙ h

pub fresh_told-word_of : (k out : List ℕ) → fresh_told (word_of (fresh_reply k out)) ≡ fresh_reply k out
unfolding word_of fresh_told
fresh_told-word_of k out =
    fresh_reply-each (λ r. fresh_told (word_of r) ≡ r)
    (λ n l m. read n (omega arith))
    k out
    (read 0 (lit< tt))
  where
    read : (n : ℕ) → n < 256 → reply (told_number (packed n 0 0 0 0)) [] ≡ reply n []
    read n l = ap (λ (x : ℕ). reply x []) (told_number-packed n 0 0 0 0 l)

-- A wake and a count tell a count.
refusal_wake_told : (n : ℕ) → 20 ≤ n → n ≤ 32 → wake_told (word_of (reply n [])) ≡ reply n []
unfolding word_of wake_told
refusal_wake_told n l m =
    let told = told_number-packed n 0 0 0 0 (omega arith) in
    choose_f _ (test 0 told (ne_eqb n 0 (λ z. omega arith)))
    (ap (λ (x : ℕ). reply x []) told)

count_wake_told : (m : ℕ) → wake_told (word_of (reply 0 (m ∷ []))) ≡ reply 0 (m ∷ [])
unfolding word_of wake_told
count_wake_told m =
    choose_t _ (test 0 (told_number-packed 0 0 0 0 m (lit< tt)) refl)
    (ap (λ (x : ℕ). reply 0 (x ∷ [])) (told_count-packed 0 0 0 0 m (lit< tt) (lit< tt) (lit< tt) (lit< tt)))

pub wake_told-word_of : (k c : List ℕ) (b : ℕ) (out : List ℕ)
    → wake_told (word_of (wake_reply k c b out)) ≡ wake_reply k c b out
wake_told-word_of k c b out =
    wake_reply-each (λ r. wake_told (word_of r) ≡ r) refusal_wake_told k c b out count_wake_told

pub left_told-word_of : (k c : List ℕ) → left_told (word_of (left_reply k c)) ≡ left_reply k c
left_told-word_of k c = left_reply-each (λ r. left_told (word_of r) ≡ r) refusal_wake_told k c count_wake_told

pub report_told-word_of : (k c fs : List ℕ)
    → report_told (word_of (report_reply k c)) (figures_after (report_reply k c) fs) ≡ report_reply k c
unfolding word_of report_told
report_told-word_of k c fs =
    report_reply-each (λ r. report_told (word_of r) (figures_after r fs) ≡ r)
    (λ n l m.
    let told = told_number-packed n 0 0 0 0 (omega arith) in
    choose_f _ (test 0 told (ne_eqb n 0 (λ z. omega arith)))
    (choose_f _ (test 40 told (ne_eqb n 40 (λ z. omega arith)))
    (choose_f _ (test 41 told (ne_eqb n 41 (λ z. omega arith)))
    (ap (λ (x : ℕ). reply x []) told))))
    k
    (λ d.
    let told = told_number-packed 40 0 0 0 d (lit< tt) in
    choose_f _ (test 0 told refl)
    (choose_t _ (test 40 told refl)
    (ap (λ (x : ℕ). reply 40 (x ∷ [])) (told_count-packed 40 0 0 0 d (lit< tt) (lit< tt) (lit< tt) (lit< tt)))))
    (λ i x l.
    let told = told_number-packed 41 x 0 0 i (lit< tt) in
    let index = told_count-packed 41 x 0 0 i (lit< tt) l (lit< tt) (lit< tt) in
    let reason = told_reason-packed 41 x 0 0 i (lit< tt) l in
    choose_f _ (test 0 told refl)
    (choose_f _ (test 40 told refl)
    (choose_t _ (test 41 told refl)
    (λ j. reply 41 (index j ∷ reason j ∷ [])))))
    (λ a b c d e m.
    choose_t _ (test 0 (told_number-packed 0 0 0 0 0 (lit< tt)) refl)
    (ap (reply 0) (figures_after_six a b c d e m fs)))
    c

-- ---- a number above 0 says that nothing was written
module _ {out : List ℕ} where
  kept : {r : Reply} {bytes : List ℕ} → ((n : ℕ) (vs : List ℕ) → r ≡ reply (suc n) vs → bytes ≡ out)
      → (n : ℕ) → 20 ≤ n → n ≤ 32 → reply n [] ≡ r → 0 < told_number (word_of (reply n [])) → bytes ≡ out
  kept keeps zero l m e p = absurd (omega arith)
  kept keeps (suc n) l m e p = keeps n [] (sym e)

  accepted_0 : (v : ℕ) {bytes : List ℕ} → 0 < told_number (packed 0 0 0 0 v) → bytes ≡ out
  accepted_0 v p = let told = told_number-packed 0 0 0 0 v (lit< tt) in absurd (omega arith)

  pub fresh_bytes-told : (k : List ℕ) → 0 < told_number (word_of (fresh_reply k out)) → fresh_bytes k out ≡ out
  unfolding word_of
  fresh_bytes-told k =
      fresh_reply-each (λ r. r ≡ fresh_reply k out → 0 < told_number (word_of r) → fresh_bytes k out ≡ out)
      (kept (demand1 k [] 0 out).kept_fresh)
      k out
      (λ e. accepted_0 0)
      refl

  pub wake_bytes-told : (k c : List ℕ) (b : ℕ) → 0 < told_number (word_of (wake_reply k c b out))
      → wake_bytes k c b out ≡ out
  unfolding word_of
  wake_bytes-told k c b =
      wake_reply-each (λ r. r ≡ wake_reply k c b out → 0 < told_number (word_of r) → wake_bytes k c b out ≡ out)
      (kept (demand1 k c b out).kept_wake)
      k c b out
      (λ m e. accepted_0 m)
      refl

pub figures_after-told : (k c fs : List ℕ) → 0 < told_number (word_of (report_reply k c))
    → figures_after (report_reply k c) fs ≡ fs
unfolding word_of
figures_after-told k c fs =
    report_reply-each (λ r. 0 < told_number (word_of r) → figures_after r fs ≡ fs)
    (λ n l m p. figures_after-kept fs refl refl)
    k
    (λ d p. figures_after-kept fs refl refl)
    (λ i x l p. figures_after-kept fs refl refl)
    (λ a b c d e m p. let told = told_number-packed 0 0 0 0 0 (lit< tt) in absurd (omega arith))
    c
