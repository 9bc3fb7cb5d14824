-- The bytes of a number, put in a buffer, and one number behind the other. Assumes nothing.
use Prim.Native.Nat.{ℕ, zero, suc, ◌+◌, ◌*◌, ◌^◌, ◌<◌, ◌≤◌}
use mathlib.Core.List.{List, [], ◌∷◌, ◌++◌, append-nil, append_assoc}
use mathlib.Core.Path.{◌≡◌, refl, ap, ap₂, sym, ◌∙◌, subst}
use native.Mathlib.Nat.{add-zero, mul-zero, le_of_suc-le-suc}
use native.Mathlib.Omega.{arith}
use lib.ListN.{length, get_or, take, drop, length-append, drop_of_length-le, replicate, length-replicate, get_or-replicate, get_or-append, get_or-eq_default}
use lib.Seq.{paste, take_all, take_at, drop_at, drop-append-add, drop-drop}
use Rattle.choice.proofs.Splitting.{if_lt}
use Rattle.rules.specs.Bytes.{word, bytes_of}
use Rattle.rules.proofs.BytesLaws.{word_same, word-nil, word-drop, length-bytes_of, word-bytes_of, bytes_of-add}

-- ---- one number: d has v put in its n bytes from `at` on
pub put_all : (d : List ℕ) (at n v : ℕ) → paste d at (bytes_of n v) n ≡ take at d ++ bytes_of n v ++ drop (at + n) d
put_all d at n v =
    ap (λ (l : List ℕ). take at d ++ l ++ drop (at + n) d)
    (take_all n (bytes_of n v) (omega (arith, length-bytes_of n v)))

-- ---- numbers one after the other: o is d with its first bytes, `at` of them, replaced by p
pub record Wrote (d o p : List ℕ) (at : ℕ) : Type 0 where
  pub whole : o ≡ p ++ drop at d
  pub front : length p ≡ at

pub wrote_none : (d : List ℕ) → Wrote d d [] 0
wrote_none d = record { whole = refl; front = refl }

-- What was written stands first, and behind it all is as it was.
pub wrote_front : {d o p : List ℕ} {at : ℕ} → Wrote d o p at → take at o ≡ p
wrote_front {d} {o} {p} {at} w = ap (take at) w.whole ∙ take_at p (drop at d) at w.front

pub wrote_behind : {d o p : List ℕ} {at : ℕ} → Wrote d o p at → (n : ℕ) → drop (at + n) o ≡ drop (at + n) d
wrote_behind {d} {o} {p} {at} w n =
    ap (drop (at + n)) w.whole
    ∙ ap (λ (m : ℕ). drop (m + n) (p ++ drop at d)) (sym w.front)
    ∙ drop-append-add p (drop at d) n
    ∙ drop-drop n at d

-- The n bytes of u are put behind them, and u is v.
pub wrote_more : {d o p : List ℕ} {at : ℕ} → Wrote d o p at → {r : List ℕ} (n : ℕ) {u v : ℕ} → v ≡ u
    → r ≡ take at o ++ bytes_of n u ++ drop (at + n) o → Wrote d r (p ++ bytes_of n v) (at + n)
wrote_more {d} {o} {p} {at} w {r} n {u} {v} e put = record {
  whole = put ∙ λ i. wrote_front w i ++ bytes_of n (sym e i) ++ wrote_behind w n i;
  front = length-append p (bytes_of n v) ∙ omega (arith, length-bytes_of n v, w.front);
}

-- ---- two numbers put as one: a in m bytes, and b in n bytes behind it
append-two : (p : List ℕ) (m n a b : ℕ) → a < 256 ^ m
    → p ++ bytes_of (m + n) (a + 256 ^ m * b) ≡ p ++ bytes_of m a ++ bytes_of n b
append-two p m n a b l =
    ap (λ (c : List ℕ). p ++ c) (bytes_of-add m n a b l) ∙ sym (append_assoc p (bytes_of m a) (bytes_of n b))

-- Of a number that m bytes hold, the n behind them are 0.
pub append-blank : (p : List ℕ) (m n v : ℕ) → v < 256 ^ m → p ++ bytes_of (m + n) v ≡ p ++ bytes_of m v ++ bytes_of n 0
append-blank p m n v l =
    let alone : v ≡ v + 256 ^ m * 0 = sym (ap (λ (x : ℕ). v + x) (mul-zero (256 ^ m)) ∙ add-zero v) in
    ap (λ (x : ℕ). p ++ bytes_of (m + n) x) alone ∙ append-two p m n v 0 l

pub wrote_two : {d o p : List ℕ} {at : ℕ} → Wrote d o p at → {r : List ℕ} (m n a b : ℕ) {v : ℕ} → a < 256 ^ m
    → v ≡ a + 256 ^ m * b → r ≡ take at o ++ bytes_of (m + n) v ++ drop (at + (m + n)) o
    → Wrote d r (p ++ bytes_of m a ++ bytes_of n b) (at + (m + n))
wrote_two {d} {o} {p} {at} w {r} m n a b l e put =
    subst (λ (c : List ℕ). Wrote d r c (at + (m + n))) (append-two p m n a b l) (wrote_more w (m + n) (sym e) put)

-- The same with k bytes of 0 behind b.
pub wrote_gap : {d o p : List ℕ} {at : ℕ} → Wrote d o p at → {r : List ℕ} (m n k a b : ℕ) {v : ℕ} → a < 256 ^ m → b < 256 ^ n
    → v ≡ a + 256 ^ m * b → r ≡ take at o ++ bytes_of (m + (n + k)) v ++ drop (at + (m + (n + k))) o
    → Wrote d r (p ++ bytes_of m a ++ bytes_of n b ++ bytes_of k 0) (at + (m + (n + k)))
wrote_gap {d} {o} {p} {at} w {r} m n k a b l h e put =
    subst (λ (c : List ℕ). Wrote d r c (at + (m + (n + k)))) (append-blank (p ++ bytes_of m a) n k b h)
    (wrote_two w m (n + k) a b l e put)

-- ---- all is written
pub wrote_all : {d o p : List ℕ} {at : ℕ} → Wrote d o p at → length d ≡ at → o ≡ p
wrote_all {d} {o} {p} {at} w h =
    w.whole
    ∙ ap (λ (l : List ℕ). p ++ l) (drop_of_length-le d {i = at} (omega arith))
    ∙ append-nil p

-- ---- what is behind a word makes no difference, and a number that was put is read
pub word-append : (p t : List ℕ) (k n : ℕ) → k + n ≤ length p → word (p ++ t) k n ≡ word p k n
word-append p t k n l = word_same (p ++ t) p k n (λ i h j. get_or-append p t 0 i (omega arith))

pub word_blank : (m k n : ℕ) → word (replicate m 0) k n ≡ 0
word_blank m k n = word_same (replicate m 0) [] k n (λ i h j. if_lt i m (λ l. get_or-replicate m i 0 0 l) (λ l. get_or-eq_default (replicate m 0) 0 {n = i} (omega (arith, length-replicate {A = ℕ} m 0)))) ∙ word-nil k n

pub word_behind : (p : List ℕ) (at n v : ℕ) → length p ≡ at → v < 256 ^ n → word (p ++ bytes_of n v) at n ≡ v
word_behind p at n v e l =
    sym (word-drop (p ++ bytes_of n v) at n)
    ∙ ap (λ (c : List ℕ). word c 0 n) (drop_at p (bytes_of n v) at e)
    ∙ word-bytes_of n v l

-- ---- numbers one after the other, read: each is its width in bytes and its value
abbrev pub Number : Type 0
Number = ℕ × ℕ

-- The numbers of fs behind the bytes p, and where the number i of them stands, the first at byte `at`.
abbrev pub joined : List ℕ → List Number → List ℕ
joined p [] = p
joined p (f ∷ fs) = joined (p ++ bytes_of f.0 f.1) fs

abbrev pub placed : ℕ → List Number → ℕ → ℕ
placed at fs zero = at
placed at [] (suc i) = at
placed at (f ∷ fs) (suc i) = placed (at + f.0) fs i

pub joined_append : (p : List ℕ) (fs : List Number) → joined p fs ≡ p ++ joined [] fs
joined_append p [] = sym (append-nil p)
joined_append p (f ∷ fs) =
    let b = bytes_of f.0 f.1 in
    joined_append (p ++ b) fs ∙ append_assoc p b (joined [] fs) ∙ ap (λ (l : List ℕ). p ++ l) (sym (joined_append b fs))

pub word_joined : (p : List ℕ) (at : ℕ) (fs : List Number) → length p ≡ at → (i : ℕ) → i < length fs →
    let f = get_or fs i (0, 0) in
    f.1 < 256 ^ f.0 → word (joined p fs) (placed at fs i) f.0 ≡ f.1
word_joined p at [] e i h l = omega arith
word_joined p at (f ∷ fs) e zero h l =
    let b = bytes_of f.0 f.1 in
    ap (λ (c : List ℕ). word c at f.0) (joined_append (p ++ b) fs)
    ∙ word-append (p ++ b) (joined [] fs) at f.0 (omega (arith, length-append p b, length-bytes_of f.0 f.1))
    ∙ word_behind p at f.0 f.1 e l
word_joined p at (f ∷ fs) e (suc i) h l =
    let b = bytes_of f.0 f.1 in
    let behind = length-append p b ∙ ap₂ ◌+◌ e (length-bytes_of f.0 f.1) in
    word_joined (p ++ b) (at + f.0) fs behind i (le_of_suc-le-suc h) l
