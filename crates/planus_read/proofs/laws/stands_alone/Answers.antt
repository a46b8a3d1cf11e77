use Rattle.planus_read.proofs.Moves as moves
use Rattle.planus_read.proofs.laws.stands_alone.Goals as goal

pub returns-clause-value : goal.returns-clause-value
returns-clause-value c = moves.stands_alone

pub returns-clause-reference : goal.returns-clause-reference
returns-clause-reference c = moves.leads_alone
