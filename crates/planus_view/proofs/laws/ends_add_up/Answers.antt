use Rattle.planus_view.proofs.Ends as lemmas
use Rattle.planus_view.proofs.laws.ends_add_up.Goals as goal

pub returns-clause-sum : goal.returns-clause-sum
returns-clause-sum c = lemmas.ends_add_up

pub returns-clause-steps : goal.returns-clause-steps
returns-clause-steps c = lemmas.ends_step
