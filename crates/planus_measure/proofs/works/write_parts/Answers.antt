use Rattle.std.proofs.Common.{refl}
use Rattle.planus_measure.proofs.works.write_parts.Goals as goal

pub write_with-requires-clause-power : goal.write_with-requires-clause-power
write_with-requires-clause-power c = (2, refl)
