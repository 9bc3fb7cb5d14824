-- Whatever the history, a checkpoint holds what the first so many records give. Assumes nothing.
use Prim.Native.Nat.{ℕ, ◌+◌, ◌-◌, ◌<◌, ◌≤◌, min}
use mathlib.Core.Bool.{true}
use mathlib.Core.List.Memᴰ
use mathlib.Core.List.{List, [], ◌∷◌, Memᴰ}
use mathlib.Core.Logic.{⊎_elim, ◌↔◌}
use mathlib.Core.Path.{◌≡◌, refl, sym, ap, ◌∙◌, subst}
use native.Mathlib.Nat.{zero-min}
use native.Mathlib.Omega.{arith}
use lib.ListN.{length}
use Rattle.choice.proofs.Splitting.{if_eq}
use Rattle.rules.specs.declared.book.Head.{Head}
use Rattle.rules.specs.Book.{accepted, opened}
use Rattle.rules.proofs.BookLaws.{accepted_facts}
use Rattle.job.specs.State.{State, run, first}
use Rattle.job.specs.Bounds.{FitFor}
use Rattle.job.specs.Checkpoint.{checkpoint_size, done_in, aside_in, index_in, reason_in, sound, decode, encode}
use Rattle.job.specs.Reply.{reply}
use Rattle.job.specs.Wake.{moves, fresh_reply, fresh_bytes, wake_reply, wake_bytes}
use Rattle.job.specs.Report.{reply_at, report_reply}
use Rattle.job.specs.History.{Starts, Wakes, History, InTurn}
use Rattle.job.proofs.StateLaws.{FirstAside, first_done, run-first, fit_for_first, first_index}
use Rattle.job.proofs.CheckpointLaws.{length-encode, decode-encode, sound-encode}
use Rattle.job.proofs.ReplyLaws.{refused_0, one_first}
use Rattle.job.proofs.WakeLaws.{records_le, fresh_admitted_32, fresh_admitted_go, wake_admitted_32, wake_admitted_go}
use Rattle.job.proofs.ReportLaws.{report_reply_at}

-- A history that has left c.
pub record Past (k c : List ℕ) : Type 0 where
  pub left : List (List ℕ)
  pub history : History k left
  pub among : Memᴰ c left

-- Wakes that each used the latest checkpoint are a history.
pub past_in_turn : (k : List ℕ) (t : ℕ) (c : List ℕ) → InTurn k t c → Past k c
past_in_turn k t c (InTurn.begun s) = record { left = c ∷ []; history = History.begun s; among = Memᴰ.head refl }
past_in_turn k t c (InTurn.woken {t = t₀} {c = from} w₀ w) =
    let p = past_in_turn k t₀ from w₀ in
    record { left = c ∷ p.left; history = History.woken p.history p.among w; among = Memᴰ.head refl }

module _ (k : List ℕ) (h : Head) (e : opened k ≡ accepted h) where
  -- ---- the checkpoint of the first p records
  abbrev left_by : ℕ → List ℕ
  left_by p = encode h (first h k p)

  fits : (p : ℕ) → p ≤ h.n → FitFor h (first h k p)
  fits p l = fit_for_first h k p e l

  length-first : (p : ℕ) → p ≤ h.n → length (left_by p) ≡ checkpoint_size
  length-first p l = length-encode h (first h k p) (fits p l).whole

  decode-first : (p : ℕ) → p ≤ h.n → decode (left_by p) ≡ first h k p
  decode-first p l = decode-encode h (first h k p) (fits p l) (records_le k h e)

  sound-first : (p : ℕ) → p ≤ h.n → sound h (left_by p) ≡ true
  sound-first p l =
      let a = accepted_facts k h e in
      sound-encode h (first h k p) (fits p l) (records_le k h e) (omega arith) (omega arith)

  place-first : (p : ℕ) → p ≤ h.n → done_in (left_by p) ≡ p
  unfolding decode
  place-first p l = ap (λ (s : State). s.counts.done) (decode-first p l) ∙ first_done h k p

  -- ---- a fresh start and a wake that are accepted had a whole buffer
  started : (c : List ℕ) → Starts k c → c ≡ left_by 0
  unfolding fresh_reply fresh_bytes first
  started c s =
      if_eq (length s.out) checkpoint_size
      (λ o. s.saves ∙ fresh_admitted_go k s.out _ _ e o)
      (λ o. absurd (refused_0 s.accepts (fresh_admitted_32 k s.out (λ n. reply n []) (λ x. reply 0 []) e o) (omega arith)))

  moves-first : (p b : ℕ) → p ≤ h.n → moves h (left_by p) b ≡ min (p + b) h.n - p
  unfolding moves
  moves-first p b l =
      let count : min b (h.n - p) ≡ min (p + b) h.n - p = omega arith in
      ap (λ (d : ℕ). min b (h.n - d)) (place-first p l) ∙ count

  -- A wake with budget b from place p, whatever the buffer held.
  wake_reply-first : (p b : ℕ) (out : List ℕ) → p ≤ h.n → length out ≡ checkpoint_size
      → wake_reply k (left_by p) b out ≡ reply 0 ((min (p + b) h.n - p) ∷ [])
  unfolding wake_reply
  wake_reply-first p b out l o =
      wake_admitted_go k (left_by p) out _ _ e (length-first p l) (sound-first p l) o
      ∙ ap (λ (m : ℕ). reply 0 (m ∷ [])) (moves-first p b l)

  wake_bytes-first : (p b : ℕ) (out : List ℕ) → p ≤ h.n → length out ≡ checkpoint_size
      → wake_bytes k (left_by p) b out ≡ left_by (min (p + b) h.n)
  unfolding wake_bytes
  wake_bytes-first p b out l o =
      let end : p + (min (p + b) h.n - p) ≡ min (p + b) h.n = omega arith in
      wake_admitted_go k (left_by p) out _ _ e (length-first p l) (sound-first p l) o
      ∙ ap (λ (s : State). encode h (run h k s (moves h (left_by p) b))) (decode-first p l)
      ∙ ap (λ (m : ℕ). encode h (run h k (first h k p) m)) (moves-first p b l)
      ∙ ap (encode h) (run-first h k p (min (p + b) h.n - p))
      ∙ ap left_by end

  -- A fresh start and one wake with a budget for the whole book, whatever the buffers held.
  pub report_reply-whole : (b : ℕ) (out next : List ℕ) → h.n ≤ b → length out ≡ checkpoint_size
      → length next ≡ checkpoint_size
      → report_reply k (wake_bytes k (fresh_bytes k out) b next) ≡ reply_at h (first h k h.n)
  unfolding fresh_bytes first
  report_reply-whole b out next l o p =
      let all : min (0 + b) h.n ≡ h.n = omega arith in
      let saved =
      ap (λ (c : List ℕ). wake_bytes k c b next) (fresh_admitted_go k out _ _ e o)
      ∙ wake_bytes-first 0 b next (omega arith) p
      ∙ ap left_by all in
      ap (report_reply k) saved
      ∙ report_reply_at k (left_by h.n) e (length-first h.n (omega arith)) (sound-first h.n (omega arith))
      ∙ ap (reply_at h) (decode-first h.n (omega arith))

  woke : (p b m : ℕ) (d : List ℕ) → p ≤ h.n → Wakes k (left_by p) b m d
      → (m ≡ min (p + b) h.n - p) × (d ≡ left_by (min (p + b) h.n))
  unfolding wake_reply
  woke p b m d l w =
      if_eq (length w.out) checkpoint_size
      (λ o. (
        one_first (sym w.accepts) (sym (wake_reply-first p b w.out l o)),
        w.saves ∙ wake_bytes-first p b w.out l o,
      ))
      (λ o. absurd (refused_0 w.accepts
      (wake_admitted_32 k (left_by p) w.out (λ n. reply n []) (λ x. reply 0 (moves x (left_by p) b ∷ [])) e
      (length-first p l) (sound-first p l) o) (omega arith)))

  -- ---- histories
  record Stands (c : List ℕ) : Type 0 where
    place : ℕ
    place-le : place ≤ h.n
    holds : c ≡ left_by place

  stands_history : (cs : List (List ℕ)) (c : List ℕ) → History k cs → Memᴰ c cs → Stands c
  stands_history cs c (History.begun {c = d} s) i =
      ⊎_elim (λ q. record { place = 0; place-le = omega arith; holds = q ∙ started d s }) (λ q. absurd (Memᴰ.not-nil q))
      (Memᴰ.cases_cons i)
  stands_history cs c (History.woken {cs = before} {c = from} {b = b} {m = m} {d = d} past i₀ w) i =
      ⊎_elim
      (λ q.
      let f = stands_history before from past i₀ in
      record {
        place = min (f.place + b) h.n;
        place-le = omega arith;
        holds = q ∙ (woke f.place b m d f.place-le (subst (λ (x : List ℕ). Wakes k x b m d) f.holds w)).1;
      })
      (λ q. stands_history before c past q)
      (Memᴰ.cases_cons i)

  -- Each checkpoint is the one of its place.
  pub at_history : (cs : List (List ℕ)) (c : List ℕ) → History k cs → Memᴰ c cs
      → (done_in c ≤ h.n) × (c ≡ left_by (done_in c))
  at_history cs c past i =
      let f = stands_history cs c past i in
      let at : done_in c ≡ f.place = ap done_in f.holds ∙ place-first f.place f.place-le in
      let l = f.place-le in
      (omega arith, f.holds ∙ ap left_by (sym at))

  pub decode_history : (cs : List (List ℕ)) (c : List ℕ) → History k cs → Memᴰ c cs
      → decode c ≡ first h k (done_in c)
  decode_history cs c past i =
      let at = at_history cs c past i in
      ap decode at.1 ∙ decode-first (done_in c) at.0

  pub same_history : (cs ds : List (List ℕ)) (c d : List ℕ) → History k cs → Memᴰ c cs → History k ds
      → Memᴰ d ds → done_in c ≡ done_in d → c ≡ d
  same_history cs ds c d p i q j same =
      (at_history cs c p i).1 ∙ ap left_by same ∙ sym (at_history ds d q j).1

  pub wakes_history : (cs : List (List ℕ)) (c : List ℕ) (b m : ℕ) (d : List ℕ) → History k cs → Memᴰ c cs
      → Wakes k c b m d
      → (m ≡ min (done_in c + b) h.n - done_in c) × (d ≡ left_by (min (done_in c + b) h.n))
  wakes_history cs c b m d past i w =
      let at = at_history cs c past i in
      woke (done_in c) b m d at.0 (subst (λ (x : List ℕ). Wakes k x b m d) at.1 w)

  pub ends_history : (cs : List (List ℕ)) (c : List ℕ) (b m : ℕ) (d : List ℕ) → History k cs → Memᴰ c cs
      → Wakes k c b m d → done_in d ≡ min (done_in c + b) h.n
  ends_history cs c b m d past i w =
      ap done_in (wakes_history cs c b m d past i w).1 ∙ place-first (min (done_in c + b) h.n) (omega arith)

  pub accepts_history : (cs : List (List ℕ)) (c : List ℕ) (b : ℕ) (out : List ℕ) → History k cs → Memᴰ c cs
      → length out ≡ checkpoint_size → wake_reply k c b out ≡ reply 0 ((min (done_in c + b) h.n - done_in c) ∷ [])
  accepts_history cs c b out past i o =
      let at = at_history cs c past i in
      ap (λ (x : List ℕ). wake_reply k x b out) at.1 ∙ wake_reply-first (done_in c) b out at.0 o

  latest : (t : ℕ) (c : List ℕ) → InTurn k t c → c ≡ left_by (min t h.n)
  latest t c (InTurn.begun s) = started c s ∙ ap left_by (sym (zero-min h.n))
  latest t c (InTurn.woken {t = t₀} {c = from} {b = b} {m = m} past w) =
      let end : min (min t₀ h.n + b) h.n ≡ min (t₀ + b) h.n = omega arith in
      (woke (min t₀ h.n) b m c (omega arith) (subst (λ (x : List ℕ). Wakes k x b m c) (latest t₀ from past) w)).1
      ∙ ap left_by end

  pub done_in_in_turn : (t : ℕ) (c : List ℕ) → InTurn k t c → done_in c ≡ min t h.n
  done_in_in_turn t c i = ap done_in (latest t c i) ∙ place-first (min t h.n) (omega arith)

  pub done_in_turn : (t : ℕ) (c : List ℕ) → InTurn k t c → (done_in c ≡ h.n) ↔ (h.n ≤ t)
  done_in_turn t c i = let at = done_in_in_turn t c i in (λ q. omega arith, λ q. omega arith)

  -- ---- reports
  pub told_history : (cs : List (List ℕ)) (c : List ℕ) → History k cs → Memᴰ c cs
      → 0 < aside_in c → FirstAside h k (done_in c) (index_in c) (reason_in c)
  unfolding decode
  told_history cs c past i =
      subst (λ (s : State). 0 < s.counts.aside → FirstAside h k (done_in c) s.counts.index s.counts.reason)
      (sym (decode_history cs c past i))
      (first_index h k (done_in c))

  pub sound_history : (cs : List (List ℕ)) (c : List ℕ) → History k cs → Memᴰ c cs
      → (length c ≡ checkpoint_size) × (sound h c ≡ true)
  sound_history cs c past i =
      let at = at_history cs c past i in
      (ap length at.1 ∙ length-first (done_in c) at.0, ap (sound h) at.1 ∙ sound-first (done_in c) at.0)
