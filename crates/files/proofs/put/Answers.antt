-- What is put ends where the buffer or the bytes do.
use Rattle.files.proofs.PutLaws.{put_past, put_copied}
use Rattle.files.proofs.put.Goals as goal

pub returns-then-len-n-clause-end : goal.returns-then-len-n-clause-end
returns-then-len-n-clause-end c = (put_past c.args.n c.args.dst.now c.args.src.now c.if-len-n.true).0

pub returns-then-len-n-clause-bytes : goal.returns-then-len-n-clause-bytes
returns-then-len-n-clause-bytes c = (put_past c.args.n c.args.dst.now c.args.src.now c.if-len-n.true).1

pub returns-clause-end : goal.returns-clause-end
returns-clause-end c =
    (put_copied c.args.n c.args.dst.now c.args.src.now c.if-len-n.false c.take_front-fitting.ensures.front c.copy_from_slice.ensures.after).0

pub returns-clause-bytes : goal.returns-clause-bytes
returns-clause-bytes c =
    (put_copied c.args.n c.args.dst.now c.args.src.now c.if-len-n.false c.take_front-fitting.ensures.front c.copy_from_slice.ensures.after).1
