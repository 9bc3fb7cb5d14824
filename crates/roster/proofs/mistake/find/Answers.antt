-- The tests are those of the definition, in its order. Assumes nothing.
use Rattle.std.proofs.Common.{sym}
use Rattle.roster.proofs.MistakeLaws.{mistake_in_comment, mistake_in-return, mistake_in-space, mistake_in_long, mistake_in_form}
use Rattle.roster.proofs.mistake.find.Goals as goal

pub returns-then-is_comment : goal.returns-then-is_comment
returns-then-is_comment c = record { mistake = mistake_in_comment _ (sym c.if-is_comment.ensures.comment) }

pub returns-then-ends_with : goal.returns-then-ends_with
returns-then-ends_with c = record {
  mistake = mistake_in-return _ (sym c.if-is_comment.ensures.comment) (sym c.if-ends_with.ensures.value);
}

pub returns-then-contains : goal.returns-then-contains
returns-then-contains c = record {
  mistake =
      mistake_in-space _ (sym c.if-is_comment.ensures.comment) (sym c.if-ends_with.ensures.value)
      c.take_checkpoint.ensures.checkpoint (sym c.if-contains.ensures.value);
}

pub returns-then-is_long : goal.returns-then-is_long
returns-then-is_long c = record {
  mistake =
      mistake_in_long _ (sym c.if-is_comment.ensures.comment) (sym c.if-ends_with.ensures.value)
      c.take_checkpoint.ensures.checkpoint (sym c.if-contains.ensures.value) (sym c.if-is_long.ensures.long);
}

pub returns : goal.returns
returns c = record {
  mistake =
      mistake_in_form _ (sym c.if-is_comment.ensures.comment) (sym c.if-ends_with.ensures.value)
      c.take_checkpoint.ensures.checkpoint (sym c.if-contains.ensures.value) (sym c.if-is_long.ensures.long);
}
