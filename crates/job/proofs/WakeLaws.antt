-- A call's admission, one case at a time, and what fits of an accepted book. Assumes nothing.
use Prim.Native.Nat.{ℕ, suc, ◌<◌, ◌≤◌}
use mathlib.Core.Bool.{Bool, true, false}
use mathlib.Core.List.{List, []}
use mathlib.Core.Path.{◌≡◌, refl, sym, ap, ◌∙◌}
use native.Mathlib.Omega.{arith}
use lib.Dec.{eqb}
use lib.ListN.{length}
use borrow.Author.Tests.{eq-eqb, ne_eqb}
use Rattle.choice.specs.Tests.{choose}
use Rattle.choice.proofs.TestsLaws.{choose_t, choose_f}
use Rattle.mass.specs.Ledger.{records_foreseen}
use Rattle.rules.specs.declared.book.Head.{Head}
use Rattle.rules.specs.Book.{Answer, refused, accepted, opened}
use Rattle.rules.proofs.BookLaws.{accepted_facts}
use Rattle.job.specs.Checkpoint.{checkpoint_size, sound}
use Rattle.job.specs.Reply.{reply}
use Rattle.job.specs.Wake.{if_open, fresh_admitted, fresh_reply, fresh_bytes, admitted_for, admitted, wake_admitted, wake_reply, wake_bytes}
use Rattle.job.proofs.ReplyLaws.{refused_0}

-- ---- the book
module _ {A : Type 0} (a : Answer) (refuse : ℕ → A) (go : Head → A) where
  pub if_open-refused : {n : ℕ} → a ≡ refused n → if_open a refuse go ≡ refuse n
  unfolding if_open
  if_open-refused e = ap (λ (b : Answer). if_open b refuse go) e

  pub if_open-accepted : {h : Head} → a ≡ accepted h → if_open a refuse go ≡ go h
  unfolding if_open
  if_open-accepted e = ap (λ (b : Answer). if_open b refuse go) e

-- ---- a fresh start
module _ {A : Type 0} (k out : List ℕ) (refuse : ℕ → A) (go : Head → A) where
  pub fresh_admitted_book : {n : ℕ} → opened k ≡ refused n → fresh_admitted k out refuse go ≡ refuse n
  unfolding fresh_admitted
  fresh_admitted_book e = if_open-refused (opened k) refuse _ e

  module _ {h : Head} (e : opened k ≡ accepted h) where
    pub fresh_admitted_32 : (length out ≡ checkpoint_size → ⊥) → fresh_admitted k out refuse go ≡ refuse 32
    unfolding fresh_admitted
    fresh_admitted_32 o = if_open-accepted (opened k) refuse _ e ∙ choose_f _ (ne_eqb _ _ o) refl

    pub fresh_admitted_go : length out ≡ checkpoint_size → fresh_admitted k out refuse go ≡ go h
    unfolding fresh_admitted
    fresh_admitted_go o = if_open-accepted (opened k) refuse _ e ∙ choose_t _ (eq-eqb _ _ o) refl

-- ---- what turns a book or its checkpoint away
module _ (h : Head) (c : List ℕ) where
  pub admitted_for_30 : (length c ≡ checkpoint_size → ⊥) → admitted_for h c ≡ refused 30
  unfolding admitted_for
  admitted_for_30 l = choose_f _ (ne_eqb _ _ l) refl

  pub admitted_for_31 : length c ≡ checkpoint_size → sound h c ≡ false → admitted_for h c ≡ refused 31
  unfolding admitted_for
  admitted_for_31 l s = choose_t _ (eq-eqb _ _ l) (choose_f _ s refl)

  pub admitted_for-sound : length c ≡ checkpoint_size → sound h c ≡ true → admitted_for h c ≡ accepted h
  unfolding admitted_for
  admitted_for-sound l s = choose_t _ (eq-eqb _ _ l) (choose_t _ s refl)

module _ (k c : List ℕ) where
  pub admitted_book : {n : ℕ} → opened k ≡ refused n → admitted k c ≡ refused n
  unfolding admitted
  admitted_book e = if_open-refused (opened k) refused _ e

  pub admitted_open : {h : Head} → opened k ≡ accepted h → admitted k c ≡ admitted_for h c
  unfolding admitted
  admitted_open e = if_open-accepted (opened k) refused _ e

-- ---- a wake
module _ {A : Type 0} (k c out : List ℕ) (refuse : ℕ → A) (go : Head → A) where
  pub wake_admitted_book : {n : ℕ} → opened k ≡ refused n → wake_admitted k c out refuse go ≡ refuse n
  unfolding wake_admitted
  wake_admitted_book e = if_open-refused (admitted k c) _ _ (admitted_book k c e)

  module _ {h : Head} (e : opened k ≡ accepted h) where
    pub wake_admitted-refused : {n : ℕ} → admitted_for h c ≡ refused n → wake_admitted k c out refuse go ≡ refuse n
    unfolding wake_admitted
    wake_admitted-refused q = if_open-refused (admitted k c) _ _ (admitted_open k c e ∙ q)

    pub wake_admitted_30 : (length c ≡ checkpoint_size → ⊥) → wake_admitted k c out refuse go ≡ refuse 30
    wake_admitted_30 l = wake_admitted-refused (admitted_for_30 h c l)

    pub wake_admitted_31 : length c ≡ checkpoint_size → sound h c ≡ false → wake_admitted k c out refuse go ≡ refuse 31
    wake_admitted_31 l s = wake_admitted-refused (admitted_for_31 h c l s)

    -- By what lets the checkpoint in, or by its length and soundness.
    module _ (a : admitted_for h c ≡ accepted h) where
      pub wake_admitted_short : (length out ≡ checkpoint_size → ⊥) → wake_admitted k c out refuse go ≡ refuse 32
      unfolding wake_admitted
      wake_admitted_short o =
          if_open-accepted (admitted k c) _ _ (admitted_open k c e ∙ a) ∙ choose_f _ (ne_eqb _ _ o) refl

      pub wake_admitted-whole : length out ≡ checkpoint_size → wake_admitted k c out refuse go ≡ go h
      unfolding wake_admitted
      wake_admitted-whole o =
          if_open-accepted (admitted k c) _ _ (admitted_open k c e ∙ a) ∙ choose_t _ (eq-eqb _ _ o) refl

    module _ (l : length c ≡ checkpoint_size) (s : sound h c ≡ true) where
      pub wake_admitted_32 : (length out ≡ checkpoint_size → ⊥) → wake_admitted k c out refuse go ≡ refuse 32
      wake_admitted_32 = wake_admitted_short (admitted_for-sound h c l s)

      pub wake_admitted_go : length out ≡ checkpoint_size → wake_admitted k c out refuse go ≡ go h
      wake_admitted_go = wake_admitted-whole (admitted_for-sound h c l s)

-- ---- what is refused leaves the buffer as it was
module _ {n : ℕ} {vs out : List ℕ} where
  choose-kept : (t : Bool) (ws x : List ℕ) → choose t (reply 0 ws) (reply 32 []) ≡ reply (suc n) vs
      → choose t x out ≡ out
  choose-kept true ws x e = absurd (refused_0 refl (sym (choose_t (reply 32 []) refl refl) ∙ e) (omega arith))
  choose-kept false ws x e = choose_f x refl refl

  if_open-kept : (a : Answer) (says leaves : Head → List ℕ) →
      let fits = eqb (length out) checkpoint_size in
      if_open a (λ m. reply m []) (λ h. choose fits (reply 0 (says h)) (reply 32 [])) ≡ reply (suc n) vs
      → if_open a (λ m. out) (λ h. choose fits (leaves h) out) ≡ out
  unfolding if_open
  if_open-kept (refused m) says leaves e = refl
  if_open-kept (accepted h) says leaves e = choose-kept (eqb (length out) checkpoint_size) _ _ e

  pub fresh_bytes-kept : (k : List ℕ) → fresh_reply k out ≡ reply (suc n) vs → fresh_bytes k out ≡ out
  unfolding fresh_reply fresh_bytes fresh_admitted
  fresh_bytes-kept k = if_open-kept (opened k) _ _

  pub wake_bytes-kept : (k c : List ℕ) (b : ℕ) → wake_reply k c b out ≡ reply (suc n) vs → wake_bytes k c b out ≡ out
  unfolding wake_reply wake_bytes wake_admitted
  wake_bytes-kept k c b = if_open-kept (admitted k c) _ _

-- ---- a book that is accepted
pub records_le : (k : List ℕ) (h : Head) → opened k ≡ accepted h → h.n ≤ records_foreseen
records_le k h e = let a = accepted_facts k h e in omega arith

-- Its length and its year fit their fields in a checkpoint.
pub head_fits : (k : List ℕ) (h : Head) → opened k ≡ accepted h → (h.length < 4294967296) × (h.year < 65536)
head_fits k h e = let a = accepted_facts k h e in (omega arith, omega arith)
