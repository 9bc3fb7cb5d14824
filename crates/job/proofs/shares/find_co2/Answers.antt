-- One place or the other, as the definition has it.
use Rattle.std.proofs.Common.{refl, sym}
use Rattle.choice.proofs.TestsLaws.{choose_t, choose_f}
use Rattle.job.proofs.shares.find_co2.Goals as goal

pub returns-then-biomass : goal.returns-then-biomass
returns-then-biomass c = record { place = sym (choose_t _ c.if-biomass.true refl) }

pub returns-else-biomass : goal.returns-else-biomass
returns-else-biomass c = record { place = sym (choose_f _ c.if-biomass.false refl) }
