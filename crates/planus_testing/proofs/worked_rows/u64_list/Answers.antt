use Rattle.std.proofs.Common.{refl}
use Rattle.std.proofs.Math.Nat.{dvd-mul_left}
use Rattle.planus_testing.proofs.worked_rows.u64_list.Goals as goal

pub returns-clause-root : goal.returns-clause-root
returns-clause-root c = (4, refl, refl)

pub returns-clause-text_aligned : goal.returns-clause-text_aligned
returns-clause-text_aligned c = dvd-mul_left 4 4
