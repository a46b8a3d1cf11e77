use Rattle.planus_write.specs.lemmas.StandingLaws.{finishes_lead, finishes_are_identified}
use Rattle.planus_write.proofs.laws.placed_finishes_lead.Goals as goal

pub returns-clause-root : goal.returns-clause-root
returns-clause-root c = finishes_lead

pub returns-clause-identifier : goal.returns-clause-identifier
returns-clause-identifier c = finishes_are_identified
