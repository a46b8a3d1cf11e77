use Rattle.planus_conform.proofs.AsRead.{texts_are_found}
use Rattle.planus_conform.proofs.laws.texts_are_found.Goals as goal

pub returns : goal.returns
returns c = texts_are_found c.readings_are_said.ensures.values
