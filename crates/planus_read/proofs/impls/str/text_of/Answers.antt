use Rattle.std.proofs.Common.{rules}
use Rattle.planus_read.proofs.impls.str.text_of.Goals as goal

pub returns-then-count-items-clause-error : goal.returns-then-count-items-clause-error
returns-then-count-items-clause-error c = search rules steps 300000
