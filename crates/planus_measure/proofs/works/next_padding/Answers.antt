use Rattle.std.proofs.Common.{refl}
use Rattle.planus_measure.proofs.works.next_padding.Goals as goal

pub request-requires-clause-power : goal.request-requires-clause-power
request-requires-clause-power c = (3, refl)
