use Rattle.planus_dump.proofs.FlagsSaid.{flags_are_said}
use Rattle.planus_dump.proofs.laws.flags_are_said.Goals as goal

pub returns : goal.returns
returns c = flags_are_said
