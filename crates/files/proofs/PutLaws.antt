-- What is put behind the first bytes of a buffer, from what a copy of what fits leaves.
-- Assumes nothing.
use Prim.Native.Nat.{ℕ, zero, suc, ◌+◌, ◌-◌, ◌<◌, ◌≤◌, min}
use mathlib.Core.List.{List, [], ◌∷◌, append-nil, append_assoc}
use mathlib.Core.Path.{◌≡◌, sym, ap, ◌∙◌}
use native.Mathlib.Nat.{zero-min, min-zero, suc-min-suc, le_of_lt}
use native.Mathlib.Omega.{arith}
use lib.ListN.{length, drop, length-take}
use lib.Seq.{take_all, drop-length, drop-drop}
use borrow.Rule.Slice.PartMut.{put_mid}
use Rattle.files.specs.Put.{front, put_end, put_bytes}

drop_min : (a : ℕ) (xs : List ℕ) → drop (min a (length xs)) xs ≡ drop a xs
drop_min zero xs = rw zero-min
drop_min (suc a) [] = rw min-zero
drop_min (suc a) (x ∷ xs) = rw suc-min-suc (drop_min a xs)

pub drop_past : (n : ℕ) (xs : List ℕ) → length xs ≤ n → drop n xs ≡ []
drop_past n xs h =
    let all : min n (length xs) ≡ length xs = omega arith in
    sym (drop_min n xs) ∙ ap (λ (m : ℕ). drop m xs) all ∙ drop-length xs

module _ (n : ℕ) (xs ys : List ℕ) where
  -- Behind more bytes than there are nothing fits.
  pub put_past : length xs < n → (length xs ≡ put_end n xs ys) × (xs ≡ put_bytes n xs ys)
  unfolding put_end put_bytes
  put_past h =
      let none : length xs - n ≡ 0 = omega arith in (
        omega arith,
        rw (take_all n xs (le_of_lt h), none, drop_past (n + length ys) xs (omega arith), append-nil, append-nil),
      )

  module _ (h : n ≤ length xs) where
    ends : {fs : List ℕ} → fs ≡ front (length xs - n) ys → n + length fs ≡ min (n + length ys) (length xs)
    ends e = let all = ap length e ∙ length-take (length xs - n) ys in omega arith

    left : {fs : List ℕ} → fs ≡ front (length xs - n) ys → drop (length fs) (drop n xs) ≡ drop (n + length ys) xs
    left {fs} e =
        drop-drop (length fs) n xs
        ∙ ap (λ (m : ℕ). drop m xs) (ends e)
        ∙ drop_min (n + length ys) xs

    -- fs is what fits, and is written behind the first n.
    pub put_copied : {fs zs : List ℕ} → fs ≡ front (length xs - n) ys → zs ≡ fs
        → (n + length fs ≡ put_end n xs ys) × (put_mid n (n + length fs - n) xs zs ≡ put_bytes n xs ys)
    unfolding put_end put_bytes
    put_copied {fs} e p =
        let count : n + length fs - n ≡ length fs = omega arith in (
          ends e,
          rw (p, count, left e, ← append_assoc, e),
        )
