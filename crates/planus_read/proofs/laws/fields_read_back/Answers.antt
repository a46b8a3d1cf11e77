use Rattle.planus_read.proofs.ReadsBack as lemmas
use Rattle.planus_read.proofs.laws.fields_read_back.Goals as goal

pub returns : goal.returns
returns c = lemmas.fields_read_back
