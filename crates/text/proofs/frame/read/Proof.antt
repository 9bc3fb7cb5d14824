-- A head has its length and passes its row of tests, or the frames stop. Assumes nothing.
use borrow.Author.Rules.{rules}
use Rattle.choice.proofs.TestsLaws.{is}
use Rattle.text.proofs.FrameLaws.{asked_in-length, asked_in_bad, asked_in_right}
use Rattle.text.proofs.frame.read.Statement.{statement}
use Rattle.text.proofs.frame.read.Tie as tie

returns : tie.Need-returns-then-head-ne-SIZE
returns c = asked_in-length c.args.head.now c.if-head-ne-SIZE.true

is-right-requires : tie.Need-is_right-requires
is-right-requires c κs = search rules

take-frame-requires : tie.Need-take_frame-requires
take-frame-requires c κs = search rules

returns-2 : tie.Need-returns-then-is_right
returns-2 c =
    let test = c in
    asked_in_right test.args.head.now test.if-head-ne-SIZE.false
    (is test.is_right.ensures c.if-is_right.true) c.take_frame.ensures

returns-3 : tie.Need-returns
returns-3 c =
    let test = c in
    asked_in_bad test.args.head.now test.if-head-ne-SIZE.false
    (is test.is_right.ensures c.if-is_right.false)

pub read_spec : {M : Type 1} → statement M
read_spec = tie.close (tie.spec returns is-right-requires take-frame-requires returns-2 returns-3)
