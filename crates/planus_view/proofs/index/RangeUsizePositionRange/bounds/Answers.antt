use Rattle.std.proofs.Common.{refl}
use Rattle.planus_view.proofs.index.RangeUsizePositionRange.bounds.Goals as goal

pub returns : goal.returns
returns c = refl
