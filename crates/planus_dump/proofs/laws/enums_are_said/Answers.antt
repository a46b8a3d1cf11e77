use Rattle.planus_dump.proofs.AsReadParts.{enums_are_said}
use Rattle.planus_dump.proofs.laws.enums_are_said.Goals as goal

pub returns : goal.returns
returns g c = enums_are_said
