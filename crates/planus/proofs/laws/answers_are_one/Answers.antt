use Rattle.planus.proofs.OneAnswer.{answers_are_one}
use Rattle.planus.proofs.laws.answers_are_one.Goals as goal

pub returns : goal.returns
returns c = answers_are_one
