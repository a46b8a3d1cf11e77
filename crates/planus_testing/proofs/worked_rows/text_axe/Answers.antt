use Rattle.std.proofs.Common.{refl}
use Rattle.planus_testing.proofs.worked_rows.text_axe.Goals as goal

pub returns-clause-root : goal.returns-clause-root
returns-clause-root c = (4, refl, refl)
