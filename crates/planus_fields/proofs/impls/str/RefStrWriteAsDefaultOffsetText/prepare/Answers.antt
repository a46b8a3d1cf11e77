use Rattle.std.proofs.Common.{refl, rules}
use Rattle.planus_fields.proofs.impls.str.RefStrWriteAsDefaultOffsetText.prepare.Goals as goal

pub returns-then-eq : goal.returns-then-eq
returns-then-eq c = (search rules, refl)
