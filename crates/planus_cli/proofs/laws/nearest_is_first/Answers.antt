use Rattle.planus_cli.proofs.Nearest.{nearest_is_meant}
use Rattle.planus_cli.proofs.laws.nearest_is_first.Goals as goal

pub returns : goal.returns
returns c = nearest_is_meant
