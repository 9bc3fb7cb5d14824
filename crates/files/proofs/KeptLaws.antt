-- A start in the first bytes of a room, and what came of it and of a wake, from the calls of `job`.
-- Assumes nothing.
use Prim.Native.Nat.{ℕ, zero, suc, ◌<◌}
use mathlib.Core.List.{List, [], ◌∷◌, append-nil}
use mathlib.Core.Path.{◌≡◌, refl, sym, ap, ◌∙◌, subst}
use Rattle.std.specs.Prelude.{Result, Ok, Err, MatchResult, IsErrAnd}
use native.Mathlib.Nat.{le_of_lt}
use native.Mathlib.Omega.{arith}
use lib.ListN.{length, length-take, take-append-drop}
use lib.Seq.{take_all}
use Rattle.io.proofs.Counting.{prefix_len_of_le}
use Rattle.rules.specs.declared.book.Fault.TheVariants.{Length, Trailer, Units, Fuels}
use Rattle.job.specs.declared.reply.Refusal.{Refusal}
use Rattle.job.specs.declared.reply.Refusal.TheVariants.{Book, CheckpointLength, CheckpointUnsound, BufferLength}
use Rattle.job.specs.Checkpoint.{checkpoint_size}
use Rattle.job.specs.Reply.{Reply, reply, refusal_number, started, woken}
use Rattle.job.specs.Wake.{fresh_reply, fresh_bytes}
use Rattle.job.proofs.ReplyLaws.{started_inj, started-refused, started-fresh, woken-refused, woken-moved}
use Rattle.job.proofs.WakeLaws.{fresh_bytes-kept}
use Rattle.files.specs.declared.kept.Due.{Due}
use Rattle.files.specs.declared.kept.Stopped.{Stopped}
use Rattle.files.specs.declared.kept.Stopped.TheVariants.{Refused, Failed}
use Rattle.files.specs.Put.{front}
use Rattle.files.specs.Kept.{replied, placed, counting, anew_reply, anew_bytes, Found, Begun, FoundBy, Saved}
use Rattle.files.proofs.PutLaws.{drop_past}

-- ---- what is said of a place is said of no other
number_inj : (x y : Refusal) → refusal_number x ≡ refusal_number y → x ≡ y
number_inj x y e =
    let told = started-refused x ∙ ap (λ (n : ℕ). reply n []) e ∙ sym (started-refused y) in
    let same = started_inj (Err x) (Err y) told in
    cc

pub placed_inj : (r s : Result ℕ Stopped) → placed r ≡ placed s → r ≡ s
unfolding placed
placed_inj (Ok n) (Ok m) e = cc
placed_inj (Ok n) (Err (Refused y)) e = cc
placed_inj (Ok n) (Err Failed) e = cc
placed_inj (Err (Refused x)) (Ok m) e = cc
placed_inj (Err (Refused x)) (Err (Refused y)) e =
    let n : refusal_number x ≡ refusal_number y = cc in ap (λ (z : Refusal). Err (Refused z)) (number_inj x y n)
placed_inj (Err (Refused x)) (Err Failed) e = cc
placed_inj (Err Failed) (Ok m) e = cc
placed_inj (Err Failed) (Err (Refused y)) e = cc
placed_inj (Err Failed) (Err Failed) e = refl

-- ---- a start's answer
-- No refusal has the number 0.
counting-refused : (n : ℕ) (x : Refusal) → counting n (reply (refusal_number x) []) ≡ reply (refusal_number x) []
unfolding counting
counting-refused n (Book Length) = refl
counting-refused n (Book Trailer) = refl
counting-refused n (Book Units) = refl
counting-refused n (Book Fuels) = refl
counting-refused n CheckpointLength = refl
counting-refused n CheckpointUnsound = refl
counting-refused n BufferLength = refl

module _ {s : Result (Unit {0}) Refusal} {w : Reply} (n : ℕ) (p : started s ≡ w) where
  pub placed-refused : {x : Refusal} → s ≡ Err x → placed (Err (Refused x)) ≡ replied (counting n w)
  unfolding placed
  placed-refused {x} e =
      let told : w ≡ reply (refusal_number x) [] = sym p ∙ ap started e ∙ started-refused x in
      sym (ap (λ (v : Reply). replied (counting n v)) told ∙ ap replied (counting-refused n x))

  pub placed_at : s ≡ Ok tt → placed (Ok n) ≡ replied (counting n w)
  unfolding placed counting
  placed_at e =
      let told : w ≡ reply 0 [] = sym p ∙ ap started e ∙ started-fresh in
      sym (ap (λ (v : Reply). replied (counting n v)) told)

-- ---- a start in a room
module _ (k room : List ℕ) where
  -- A room that is shorter than a checkpoint is taken whole.
  module _ (h : length room < checkpoint_size) where
    whole : front checkpoint_size room ≡ room
    whole = take_all checkpoint_size room (le_of_lt h)

    pub anew_reply_short : counting (length room) (fresh_reply k room) ≡ anew_reply k room
    unfolding anew_reply
    anew_reply_short = sym (ap (λ (xs : List ℕ). counting (length xs) (fresh_reply k xs)) whole)

    pub anew_bytes_short : fresh_bytes k room ≡ anew_bytes k room
    unfolding anew_bytes
    anew_bytes_short = rw (whole, drop_past checkpoint_size room (le_of_lt h), append-nil)

  found_by : (r : Result ℕ Stopped) (w : Reply) {now : List ℕ} → fresh_reply k (front checkpoint_size room) ≡ w
      → placed r ≡ replied (counting (length (front checkpoint_size room)) w)
      → now ≡ anew_bytes k room → length now ≡ length room → Found r k room now
  unfolding placed counting anew_reply anew_bytes
  found_by (Ok n) (reply zero vs) f p e l =
      let all : n ≡ length (front checkpoint_size room) = cc in
      prefix_len_of_le _ _ (omega (arith, all, length-take checkpoint_size room))
  found_by (Ok n) (reply (suc m) vs) f p e l = let z : ◌≡◌ {A = ℕ} 0 (suc m) = cc in absurd (omega arith)
  found_by (Err (Refused x)) (reply zero vs) f p e l = let z : ◌≡◌ {A = ℕ} 0 1 = cc in absurd (omega arith)
  found_by (Err (Refused x)) (reply (suc m) vs) f p e l = (
    p ∙ ap (λ (v : Reply). replied (counting (length (front checkpoint_size room)) v)) (sym f),
    e ∙ rw (fresh_bytes-kept k f) (take-append-drop checkpoint_size room),
  )
  found_by (Err Failed) w f p e l = tt

  pub found_anew : (r : Result ℕ Stopped) {now : List ℕ} → placed r ≡ replied (anew_reply k room)
      → now ≡ anew_bytes k room → length now ≡ length room → Found r k room now
  unfolding anew_reply
  found_anew r = found_by r (fresh_reply k (front checkpoint_size room)) refl

  pub begun_anew : (r : Result ℕ Stopped) {now : List ℕ} → placed r ≡ replied (anew_reply k room)
      → now ≡ anew_bytes k room → Begun r k room now
  begun_anew (Ok n) p e = (p, e)
  begun_anew (Err (Refused x)) p e = (p, e)
  begun_anew (Err Failed) p e = tt

-- ---- where a job stands, by what is due
pub found_by_due : (r : Result ℕ Stopped) (k room now : List ℕ) {d e : Result Due Stopped} → d ≡ e
    → FoundBy e r k room now → FoundBy d r k room now
found_by_due r k room now q = subst (λ (x : Result Due Stopped). FoundBy x r k room now) (sym q)

-- ---- a wake's answer
module _ {s : Result ℕ Refusal} {w : Reply} (p : woken s ≡ w) where
  pub reply-refused : {x : Refusal} → s ≡ Err x → w ≡ reply (refusal_number x) []
  reply-refused {x} e = sym p ∙ ap woken e ∙ woken-refused x

  pub reply-moved : {m : ℕ} → s ≡ Ok m → w ≡ reply 0 (m ∷ [])
  reply-moved {m} e = sym p ∙ ap woken e ∙ woken-moved m

-- What is passed up of it: its count, or its refusal.
pub saved_passed : (s : Result ℕ Refusal) (r : Result ℕ Stopped) {w : Reply} → woken s ≡ w
    → MatchResult s (λ m. r ≡ Ok m) (λ x. IsErrAnd r (λ y. y ≡ Refused x)) → Saved r w
saved_passed (Ok m) r p e = rw e (reply-moved p refl)
saved_passed (Err x) (Err y) p e = rw e (reply-refused p refl)
saved_passed (Err x) (Ok m) p e = absurd e
