use Rattle.planus_back.proofs.PaddingLaws.{below_alignment}
use Rattle.planus_back.proofs.laws.padding_is_below_alignment.Goals as goal

pub returns : goal.returns
returns c = below_alignment
