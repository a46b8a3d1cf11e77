use Rattle.std.proofs.Common.{rules}
use Rattle.planus_read.proofs.impls.primitives.U32Plain.read.Goals as goal

pub returns : goal.returns
returns c = search rules steps 300000
