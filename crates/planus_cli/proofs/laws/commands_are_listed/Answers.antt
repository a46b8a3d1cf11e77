use Rattle.planus_cli.proofs.Listed.{commands_listed}
use Rattle.planus_cli.proofs.laws.commands_are_listed.Goals as goal

pub returns : goal.returns
returns c = commands_listed
