-- The number of records set aside chooses which tests count, as in the definition. The reason is read with the gap behind
-- it, as one word.
use Rattle.std.proofs.Common.{ℕ, Bool, refl, sym, ap, ◌∙◌, arith}
use lib.Dec.{eqb, ltb, leb}
use borrow.Author.Tests.{ne_eqb, lt-leb}
use Rattle.choice.specs.Tests.{◌also◌}
use Rattle.choice.proofs.TestsLaws.{both, also_assoc, also_fail, choose_t, choose_f, eq_of, ne_of}
use Rattle.rules.specs.Record.{last_reason}
use Rattle.rules.proofs.BytesLaws.{word_wide}
use Rattle.job.specs.Checkpoint.{index_in, done_in, gap_in, first_sound}
use Rattle.job.proofs.checkpoint.is_first_sound.Goals as goal

pub returns-then-read_word-eq0 : goal.returns-then-read_word-eq0
unfolding first_sound
returns-then-read_word-eq0 c =
    let k = c.args.c.now in
    let aside = c.read_word.ensures.value in
    let reason = c.read_word-reason.ensures.value in
    let index = c.read_word-index.ensures.value in
    let wide = word_wide (λ (x : ℕ). eqb x 0) k 12 1 13 3 4 refl refl (λ x past. ne_eqb x 0 (λ e. omega arith)) in
    record {
      first =
          both (λ i. eqb (index i) 0) ((λ i. eqb (reason i) 0) ∙ wide)
          ∙ also_assoc _ _ _
          ∙ ap (λ (b : Bool). b also gap_in k) (sym (choose_t _ (eq_of aside c.if-read_word-eq0.true) refl));
    }

pub returns : goal.returns
unfolding first_sound
returns c =
    let k = c.args.c.now in
    let done = c.read_word-done.ensures.value in
    let aside = c.read_word.ensures.value in
    let reason = c.read_word-reason.ensures.value in
    let index = c.read_word-index.ensures.value in
    let named : ℕ → Bool = λ x. ltb (index_in k) (done_in k) also leb 1 x also leb x last_reason in
    let wide = word_wide named k 12 1 13 3 4 refl refl (λ x past. also_fail _ (lt-leb x last_reason (omega arith))) in
    record {
      first =
          both (both (λ i. ltb (index i) (done i)) (λ i. leb 1 (reason i))) (λ i. leb (reason i) last_reason)
          ∙ wide
          ∙ ap (λ (b : Bool). b also gap_in k) (sym (choose_f _ (ne_of aside c.if-read_word-eq0.false) refl));
    }
