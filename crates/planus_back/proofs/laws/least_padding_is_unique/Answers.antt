use Rattle.planus_back.proofs.PaddingLaws.{is_unique}
use Rattle.planus_back.proofs.laws.least_padding_is_unique.Goals as goal

pub returns : goal.returns
returns c = is_unique
