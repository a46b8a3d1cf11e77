use Rattle.planus_read.proofs.ReadsBack as lemmas
use Rattle.planus_read.proofs.laws.what_stands_reads_back.Goals as goal

pub returns : goal.returns
returns c = lemmas.what_stands_reads_back
