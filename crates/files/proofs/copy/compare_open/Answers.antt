-- A copy is told by its pieces.
use Rattle.std.proofs.Common.{◌≡◌, ℕ, ◌+◌, ◌-◌, ◌<◌, Bool, true, false, List, rules, arith, length, take, drop, refl, sym, ap, ◌∙◌}
use Rattle.std.proofs.KnownBytes.{Consumes-trans}
use Rattle.std.specs.Bool.{Decides}
use Rattle.std.specs.Cmp.Lexicographic.{pointwise}
use Rattle.std.proofs.lemmas.Bool.Decides.{Decides-eqb}
use Rattle.std.proofs.lemmas.Slice.Eq.{slice_eq-Decides}
use Rattle.choice.proofs.Splitting.{if_test}
use lib.Dec.{eqb}
use mathlib.Core.Bool.{not}
use Rattle.files.proofs.LookLaws.{told_end, told_long, told_piece, more_kept}
use Rattle.files.proofs.copy.compare_open.Goals as goal

-- The test of a piece, in the piece's own words.
module _ (k p f : List ℕ) (n m : ℕ) {b : Bool} (e : b ≡ not (pointwise eqb (take (n + m - n) (drop n k)) f))
    (q : f ≡ take m p) where
  count : take (n + m - n) (drop n k) ≡ take m (drop n k)
  count = let all : n + m - n ≡ m = omega arith in ap (λ (i : ℕ). take i (drop n k)) all

  decides : Decides (pointwise eqb (take (n + m - n) (drop n k)) f) (take (n + m - n) (drop n k) ≡ f)
  decides = slice_eq-Decides Decides-eqb _ _ _ refl

  differ : b ≡ true → take m (drop n k) ≡ take m p → ⊥
  differ t r = let same = decides.1 (count ∙ r ∙ sym q) in
      let no : true ≡ false = sym t ∙ e ∙ ap not same in cc

  agree : b ≡ false → take m (drop n k) ≡ take m p
  agree t = if_test (pointwise eqb (take (n + m - n) (drop n k)) f)
      (λ same. sym count ∙ decides.0 same ∙ q)
      (λ other. let no : false ≡ true = sym t ∙ e ∙ ap not other in cc)

pub returns-then-more-eq0 : goal.returns-then-more-eq0
returns-then-more-eq0 g c =
    let loop = c.loop-file in
    let read = c.in_ok-more.ensures in
    let took = Consumes-trans _ _ _ _ _ loop.invariant.2 read.bytes.0 in
    let room : 0 < length c.read.new.buf =
    omega (arith, c.read.auto.buf, loop.invariant.1) in
    record {
      told = told_end c.args.book.now c.read.new.buf loop.n _ loop.invariant.0 _ _ _ took c.if-more-eq0.true
          (read.bytes.1 c.if-more-eq0.true room) c.end_at.ensures.same c.end_at.ensures.other;
    }

pub returns-then-book-n : goal.returns-then-book-n
returns-then-book-n g c =
    let loop = c.loop-file in
    let read = c.in_ok-more.ensures in
    let took = Consumes-trans _ _ _ _ _ loop.invariant.2 read.bytes.0 in
    record { told = told_long c.args.book.now _ loop.n _ loop.invariant.0 _ _ took read.bound.0 c.if-book-n.true }

pub returns-then-ne : goal.returns-then-ne
returns-then-ne g c =
    let loop = c.loop-file in
    let read = c.in_ok-more.ensures in
    let took = Consumes-trans _ _ _ _ _ loop.invariant.2 read.bytes.0 in
    let test = differ c.args.book.now _ _ loop.n c.in_ok-more.more c.ne.ensures c.take_front.ensures.front c.if-ne.true in
    record { told = told_piece c.args.book.now _ loop.n c.in_ok-more.more loop.invariant.0 _ _ took read.bound.0 test }

pub loop-file-preserved : goal.loop-file-preserved
loop-file-preserved g c =
    let loop = c.loop-file in
    let read = c.in_ok-more.ensures in
    let took = Consumes-trans _ _ _ _ _ loop.invariant.2 read.bytes.0 in
    let test = agree c.args.book.now _ _ loop.n c.in_ok-more.more c.ne.ensures c.take_front.ensures.front c.if-ne.false in
    (search rules, search rules, more_kept c.args.book.now _ loop.n c.in_ok-more.more loop.invariant.0 _ _ took test)
