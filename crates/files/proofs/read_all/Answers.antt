-- What a read puts behind the first bytes of the buffer is what the input lost behind them.
use Rattle.std.proofs.Common.{◌≡◌, ℕ, ◌+◌, ◌≤◌, List, ◌++◌, rules, length, take, drop, sym, ap, ◌∙◌, subst, le_refl, drop_at, length-take-le}
use Rattle.std.proofs.lemmas.Slice.{take-put_mid_below}
use Rattle.std.proofs.KnownBytes.{Consumes-trans}
use Rattle.std.specs.Io.KnownBytes.{Consumes}
use borrow.Rule.Slice.PartMut.{put_mid, post_of}
use lib.Seq.{take-add, take-append-le}
use Rattle.files.proofs.read_all.Goals as goal

take_put : (a k m : ℕ) (xs ys : List ℕ) → a ≤ length xs → m ≤ length ys
    → take a xs ++ take m ys ≡ take (a + m) (put_mid a k xs ys)
take_put a k m xs ys h f =
    let all = put_mid a k xs ys in
    let after = post_of a k xs in
    let before : take a all ≡ take a xs = take-put_mid_below a k xs ys a (le_refl a) h in
    let behind : take m (drop a all) ≡ take m ys =
    ap (take m) (drop_at (take a xs) (ys ++ after) a (length-take-le a xs h)) ∙ take-append-le m ys after f in
    sym (
    take-add a m all
    ∙ ap (λ (l : List ℕ). l ++ take m (drop a all)) before
    ∙ ap (λ (l : List ℕ). take a xs ++ l) behind
    )

pub loop-n-preserved : goal.loop-n-preserved
loop-n-preserved g c =
    let loop = c.loop-n in
    let read = c.in_ok-more.ensures in
    let put = take_put loop.n _ c.in_ok-more.more loop.buf c.read.new.buf loop.invariant.0 read.bound.0 in
    (search rules, subst (Consumes _ _) put (Consumes-trans _ _ _ _ _ loop.invariant.1 read.bytes.0))
