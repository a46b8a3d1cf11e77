use Rattle.std.proofs.Common.{refl}
use Rattle.planus_script.proofs.run.read_some.Goals as goal

pub returns-in-Err-2-clause-error : goal.returns-in-Err-2-clause-error
returns-in-Err-2-clause-error g c = refl
