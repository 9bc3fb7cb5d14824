-- How a copy that is read piece by piece stands to a book, from the pieces. Assumes nothing.
use Rattle.std.proofs.Common.{◌≡◌, ℕ, ◌+◌, ◌-◌, ◌<◌, ◌≤◌, List, [], ◌++◌, length, take, drop, sym, ap, ◌∙◌, subst, arith, Option, Some, None, length-append, length-take-le, append_assoc, append-nil, drop_at}
use lib.Seq.{take_all, take-append-le, take-add}
use mathlib.Core.Bool.{true, false}
use Rattle.std.proofs.Math.Option.{some}
use Rattle.std.specs.Io.KnownBytes.{Consumes, IsAtEnd}
use Rattle.choice.proofs.Splitting.{if_test, if_lt}
use Rattle.roster.specs.Bytes.{same}
use Rattle.roster.proofs.BytesLaws.{same→eq, same_refl}
use Rattle.files.specs.declared.copy.Compared.{Compared}
use Rattle.files.specs.declared.copy.Compared.TheVariants.{Same, Other}
use Rattle.files.specs.Guard.{compared_with}
use Rattle.files.specs.Look.{Told}
use Rattle.files.proofs.GuardLaws.{compared_same, compared_other}

same_false : (c k : List ℕ) → (c ≡ k → ⊥) → same c k ≡ false
same_false c k ne = if_test (same c k) (λ t. absurd (ne (same→eq c k t))) (λ f. f)

other : (c k : List ℕ) → (c ≡ k → ⊥) → Other ≡ compared_with (some c) k
other c k ne = sym (compared_other c k (same_false c k ne))

own : (c k : List ℕ) → c ≡ k → Same ≡ compared_with (some c) k
own c k e = sym (compared_same c k (subst (λ x. same c x ≡ true) e (same_refl c)))

-- A piece that is behind the first n of the book, of which m count.
module _ (k p : List ℕ) (n m : ℕ) (h : n ≤ length k) where
  -- At the end of the copy.
  pub told_end : (a d : Option (List ℕ)) (x : Compared) → Consumes a d (take n k ++ take m p) → m ≡ 0 → IsAtEnd d
      → (n ≡ length k → x ≡ Same) → ((n ≡ length k → ⊥) → x ≡ Other) → Told a k x
  told_end None d x e z l s o = tt
  told_end (Some c) None x e z l s o = absurd e
  told_end (Some c) (Some ys) x e z l s o =
      let none : take m p ≡ [] = ap (λ (i : ℕ). take i p) z in
      let all : c ≡ take n k = e ∙ rw (none, l, append-nil, append-nil) in
      if_lt n (length k)
      (λ less.
      let short : length c ≡ n = ap length all ∙ length-take-le n k h in
      o (λ q. omega (arith, q)) ∙ other c k (λ q. omega (arith, short, ap length q)))
      (λ full.
      let q : n ≡ length k = omega (arith, full) in
      s q ∙ own c k (all ∙ take_all n k (omega (arith, q))))

  -- The copy is longer than the book.
  pub told_long : (a d : Option (List ℕ)) → Consumes a d (take n k ++ take m p) → m ≤ length p
      → length k - n < m → Told a k Other
  told_long None d e f l = tt
  told_long (Some c) None e f l = absurd e
  told_long (Some c) (Some ys) e f l =
      let long : length c ≡ (n + m) + length ys =
      ap length e ∙ rw (length-append, length-append, length-take-le n k h, length-take-le m p f) in
      other c k (λ q. omega (arith, long, ap length q))

  -- What the copy has there.
  there : (c ys : List ℕ) → c ≡ (take n k ++ take m p) ++ ys → m ≤ length p → take m (drop n c) ≡ take m p
  there c ys e f =
      let at : drop n c ≡ take m p ++ ys =
      ap (drop n) (e ∙ append_assoc (take n k) (take m p) ys)
      ∙ drop_at (take n k) (take m p ++ ys) n (length-take-le n k h) in
      ap (take m) at
      ∙ take-append-le m (take m p) ys (omega (arith, length-take-le m p f))
      ∙ take_all m (take m p) (omega (arith, length-take-le m p f))

  -- The piece isn't the book's.
  pub told_piece : (a d : Option (List ℕ)) → Consumes a d (take n k ++ take m p) → m ≤ length p
      → (take m (drop n k) ≡ take m p → ⊥) → Told a k Other
  told_piece None d e f t = tt
  told_piece (Some c) None e f t = absurd e
  told_piece (Some c) (Some ys) e f t =
      other c k (λ q. t (ap (λ (l : List ℕ). take m (drop n l)) (sym q) ∙ there c ys e f))

  -- The piece is the book's.
  pub more_kept : (a d : Option (List ℕ)) → Consumes a d (take n k ++ take m p)
      → take m (drop n k) ≡ take m p → Consumes a d (take (n + m) k)
  more_kept a d e r =
      subst (Consumes a d) (ap (λ (l : List ℕ). take n k ++ l) (sym r) ∙ sym (take-add n m k)) e
