use Rattle.planus_read.proofs.TableReading.{fields_read}
use Rattle.planus_read.proofs.laws.fields_are_answered.Goals as goal

pub returns : goal.returns
returns g c = fields_read g.T.TableRead.reads
