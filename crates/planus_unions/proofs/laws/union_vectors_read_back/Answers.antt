use Rattle.planus_unions.proofs.ReadBack.{union_vectors}
use Rattle.planus_unions.proofs.laws.union_vectors_read_back.Goals as goal

pub returns : goal.returns
returns g c = union_vectors _ _
