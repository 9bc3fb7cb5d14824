-- A start's count lies within the room, and only a start refuses.
use Rattle.files.proofs.KeptLaws.{found_anew}
use Rattle.files.proofs.kept.read_place.Goals as goal

pub returns-in_default : goal.returns-in_default
returns-in_default g c =
    let start = c.start_anew in
    record { found = found_anew _ _ start.result start.ensures.place start.ensures.bytes start.auto.room }
