use Rattle.planus_write.specs.lemmas.Staying.{kept_stays}
use Rattle.planus_write.specs.lemmas.StandingLaws.{values_are_kept}
use Rattle.planus_write.proofs.laws.written_values_are_kept.Goals as goal

pub returns-clause-kept : goal.returns-clause-kept
returns-clause-kept c = values_are_kept

pub returns-clause-stays : goal.returns-clause-stays
returns-clause-stays c = kept_stays
