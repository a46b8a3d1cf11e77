use Rattle.planus_read.proofs.TableReading.{union_vectors_read}
use Rattle.planus_read.proofs.laws.union_vectors_are_answered.Goals as goal

pub returns : goal.returns
returns g c = union_vectors_read g.T.TableReadUnionVector.reads
