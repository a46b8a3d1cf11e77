use Rattle.planus_read.proofs.TableReading.{unions_read}
use Rattle.planus_read.proofs.laws.unions_are_answered.Goals as goal

pub returns : goal.returns
returns g c = unions_read g.T.TableReadUnion.reads
