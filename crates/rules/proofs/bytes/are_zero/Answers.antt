use Rattle.std.proofs.Common.{◌≡◌, ℕ, ◌+◌, ◌-◌, ◌≤◌, eqb, List, sym, ap, ◌∙◌, arith}
use lib.Bits.{bit_or}
use Rattle.choice.specs.Tests.{◌also◌}
use Rattle.rules.specs.Bytes.{word, zeros}
use Rattle.rules.proofs.BytesLaws.{zeros-split, zero_or}
use Rattle.rules.proofs.bytes.are_zero.Goals as goal
use Rattle.rules.proofs.bytes.are_zero.Goals.{else-loop-at-test, then-loop-at-test+else-to-at-gt8}

-- Eight bytes more.
longer : (s : List ℕ) (from at seen eight : ℕ) → from ≤ at → eqb seen 0 ≡ zeros s from (at - from) → eight ≡ word s at 8
    → eqb (bit_or seen eight) 0 ≡ zeros s from (at + 8 - from)
longer s from at seen eight h p q =
    zero_or seen eight
    ∙ (λ i. p i also eqb (q i) 0)
    ∙ sym (zeros-split s from (at - from) at 8 (at + 8 - from) (omega arith) (omega arith))

pub loop-at-preserved : goal.loop-at-preserved
loop-at-preserved c =
    let loop = c.loop-at in
    let a = c.args in
    let on : a.from ≤ loop.at = omega arith in
    record {
      end = omega arith;
      whole = omega arith;
      seen = longer a.s.now a.from loop.at _ _ on loop.invariant.seen c.read_word-seen.ensures.value;
    }

pub returns : goal.returns
returns c =
    let loop = c.loop-at in
    let a = c.args in
    let on : a.from ≤ loop.at = omega arith in
    record {
      zeros = elim c.loop-at-test.branch [
        | else-loop-at-test w ↦
            ap (λ (x : ℕ). eqb x 0) w.seen-is ∙ loop.invariant.seen ∙ ap (zeros a.s.now a.from) (omega arith)
        | then-loop-at-test+else-to-at-gt8 w ↦
            ap (λ (x : ℕ). eqb x 0) w.seen-is
            ∙ longer a.s.now a.from loop.at _ _ on loop.invariant.seen w.read_word-seen.ensures.value
            ∙ ap (zeros a.s.now a.from) (omega arith)
      ];
    }
