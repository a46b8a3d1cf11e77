use Rattle.planus_back.proofs.PaddingLaws.{keeps_all}
use Rattle.planus_back.proofs.laws.greatest_alignment_keeps_every_promise.Goals as goal

pub returns : goal.returns
returns c = keeps_all
