use Rattle.planus_dot.proofs.Read.{graph_read}
use Rattle.planus_dot.proofs.laws.graph_is_read.Goals as goal

pub returns : goal.returns
returns c = λ schema h. graph_read schema h
