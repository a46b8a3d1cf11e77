use Rattle.std.proofs.Common.{refl}
use Rattle.planus_bench.proofs.tests.alignments.mask_of.Goals as goal

pub returns-in-4-clause-power : goal.returns-in-4-clause-power
returns-in-4-clause-power c = (2, refl)

pub returns-in-8-clause-power : goal.returns-in-8-clause-power
returns-in-8-clause-power c = (3, refl)

pub returns-in_default-clause-power : goal.returns-in_default-clause-power
returns-in_default-clause-power c = (4, refl)
