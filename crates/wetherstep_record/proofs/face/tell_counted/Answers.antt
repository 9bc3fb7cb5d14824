-- The word has the entry's method and the number of its ledger, and the masses are the entry's. Assumes
-- nothing.
use Rattle.std.proofs.Common.{refl}
use Rattle.wetherstep_record.proofs.FaceLaws.{record_word-counted}
use Rattle.wetherstep_record.proofs.face.tell_counted.Goals as goal

pub returns-clause-word : goal.returns-clause-word
returns-clause-word c = record_word-counted refl c.number_ledger.ensures.number c.pack.ensures.word

pub returns-clause-masses : goal.returns-clause-masses
returns-clause-masses c = refl
