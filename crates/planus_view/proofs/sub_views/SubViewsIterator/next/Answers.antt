use Rattle.std.proofs.Common.{refl, arith}
use Rattle.planus_view.proofs.LeftOf.{left_first}
use Rattle.planus_view.specs.RangesLeft.{ranges_of}
use Rattle.planus_view.proofs.sub_views.SubViewsIterator.next.Goals as goal

pub returns-clause-steps : goal.returns-clause-steps
returns-clause-steps g c =
    let s = c.args.self.now in let at = c.at_range-sub_view.ensures in (
      at.0,
      left_first (ranges_of s) s.front s.back at.0 (omega (arith, s.order)) at.1,
      at.2,
      record { whole = refl; size = refl },
    )
