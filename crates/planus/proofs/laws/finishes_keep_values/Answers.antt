use Rattle.planus.proofs.FinishedValues.{finishes_keep_values, sized_finishes_keep_values}
use Rattle.planus.proofs.FinishedValues.{values_stand_finished}
use Rattle.planus.proofs.laws.finishes_keep_values.Goals as goal

pub returns-clause-root_first : goal.returns-clause-root_first
returns-clause-root_first g c =
    finishes_keep_values g.X.WriteAsOffset.may g.X.WriteAsOffset.outcome
    (g.met.X.WriteAsOffset).is_lawful

pub returns-clause-size_first : goal.returns-clause-size_first
returns-clause-size_first g c =
    sized_finishes_keep_values g.X.WriteAsOffset.may g.X.WriteAsOffset.outcome
    (g.met.X.WriteAsOffset).is_lawful

pub returns-clause-builder : goal.returns-clause-builder
returns-clause-builder g c =
    values_stand_finished g.X.WriteAsOffset.may g.X.WriteAsOffset.outcome
    (g.met.X.WriteAsOffset).is_lawful
