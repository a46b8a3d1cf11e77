use Rattle.planus_read.proofs.Moves as moves
use Rattle.planus_read.proofs.laws.keeps_standing.Goals as goal

pub returns-clause-value : goal.returns-clause-value
returns-clause-value c = moves.keeps_standing

pub returns-clause-reference : goal.returns-clause-reference
returns-clause-reference c = moves.keeps_leading
