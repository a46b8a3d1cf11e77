use Rattle.planus_write.specs.lemmas.Staying.{kept_stays}
use Rattle.planus.proofs.FinishedValues.{values_stand_on}
use Rattle.planus.proofs.laws.kept_values_stay.Goals as goal

pub returns-clause-history : goal.returns-clause-history
returns-clause-history c = kept_stays

pub returns-clause-builder : goal.returns-clause-builder
returns-clause-builder c = values_stand_on
