use Rattle.planus.proofs.Answering.{an_answer_is_there}
use Rattle.planus.proofs.laws.an_answer_is_there.Goals as goal

pub returns : goal.returns
returns c = an_answer_is_there
