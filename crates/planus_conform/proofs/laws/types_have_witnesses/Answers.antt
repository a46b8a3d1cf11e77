use Rattle.planus_conform.proofs.OtherTypes.{types_show}
use Rattle.planus_conform.proofs.laws.types_have_witnesses.Goals as goal

pub returns : goal.returns
returns c = types_show
