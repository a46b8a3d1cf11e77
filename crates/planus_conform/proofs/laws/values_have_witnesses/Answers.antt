use Rattle.planus_conform.proofs.EnumValues.{values_show, removed_show, added_show}
use Rattle.planus_conform.proofs.laws.values_have_witnesses.Goals as goal

pub returns-clause-values : goal.returns-clause-values
returns-clause-values c = values_show

pub returns-clause-removed : goal.returns-clause-removed
returns-clause-removed c = removed_show

pub returns-clause-added : goal.returns-clause-added
returns-clause-added c = added_show
