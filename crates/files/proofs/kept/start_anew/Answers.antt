-- A room that is shorter than a checkpoint is handed on whole, and else the first bytes of it are.
use Rattle.std.proofs.Common.{List, ℕ, ◌++◌, drop, ap, ◌∙◌}
use Rattle.job.specs.Checkpoint.{checkpoint_size}
use Rattle.files.specs.Kept.{replied, anew_reply, anew_bytes}
use Rattle.files.proofs.KeptLaws.{anew_reply_short, anew_bytes_short}
use Rattle.files.proofs.kept.start_anew.Goals as goal

pub returns-then-room-lt-SIZE-clause-place : goal.returns-then-room-lt-SIZE-clause-place
returns-then-room-lt-SIZE-clause-place c =
    c.begin.ensures.place ∙ ap replied (anew_reply_short c.args.book.now c.args.room.now c.if-room-lt-SIZE.true)

pub returns-then-room-lt-SIZE-clause-bytes : goal.returns-then-room-lt-SIZE-clause-bytes
returns-then-room-lt-SIZE-clause-bytes c =
    c.begin.ensures.bytes ∙ anew_bytes_short c.args.book.now c.args.room.now c.if-room-lt-SIZE.true

pub returns-clause-place : goal.returns-clause-place
unfolding anew_reply
returns-clause-place c = c.begin-2.ensures.place

pub returns-clause-bytes : goal.returns-clause-bytes
unfolding anew_bytes
returns-clause-bytes c = ap (λ (xs : List ℕ). xs ++ drop checkpoint_size c.args.room.now) c.begin-2.ensures.bytes
