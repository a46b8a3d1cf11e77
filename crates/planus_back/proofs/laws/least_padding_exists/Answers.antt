use Rattle.planus_back.proofs.PaddingLaws.{exists}
use Rattle.planus_back.proofs.laws.least_padding_exists.Goals as goal

pub returns : goal.returns
returns c = exists
