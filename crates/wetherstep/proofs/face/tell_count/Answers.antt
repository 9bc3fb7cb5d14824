-- Each answer has one reply, and that has its word. Assumes nothing.
use Rattle.std.proofs.Common.{ap, ◌∙◌}
use Rattle.job.specs.Reply.{woken}
use Rattle.job.proofs.ReplyLaws.{woken-refused, woken-moved}
use Rattle.wetherstep.proofs.FaceLaws.{word_of-none, word_of_count}
use Rattle.wetherstep.proofs.face.tell_count.Goals as goal

pub returns-in-Err : goal.returns-in-Err
returns-in-Err c =
    let told = ap woken c.in-Err.is ∙ woken-refused _ in
    record { word = word_of-none told c.number_refusal.ensures.number c.pack.ensures.word }

pub returns-in-Ok : goal.returns-in-Ok
returns-in-Ok c =
    let told = ap woken c.in-Ok.is ∙ woken-moved _ in
    record { word = word_of_count told c.pack-in-Ok.ensures.word }
