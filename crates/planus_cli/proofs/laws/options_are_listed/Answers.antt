use Rattle.planus_cli.proofs.Listed.{options_listed}
use Rattle.planus_cli.proofs.laws.options_are_listed.Goals as goal

pub returns : goal.returns
returns c = options_listed
