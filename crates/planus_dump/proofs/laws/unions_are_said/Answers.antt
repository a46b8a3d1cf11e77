use Rattle.planus_dump.proofs.AsRead.{unions_are_said, union_vectors_are_said}
use Rattle.planus_dump.proofs.laws.unions_are_said.Goals as goal

pub returns-clause-unions : goal.returns-clause-unions
returns-clause-unions c = unions_are_said

pub returns-clause-vectors : goal.returns-clause-vectors
returns-clause-vectors c = union_vectors_are_said
