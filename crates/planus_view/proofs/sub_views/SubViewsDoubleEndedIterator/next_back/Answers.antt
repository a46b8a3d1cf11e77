use Rattle.std.proofs.Common.{refl, arith, ◌-◌}
use Rattle.planus_view.proofs.LeftOf.{left_last}
use Rattle.planus_view.specs.RangesLeft.{ranges_of}
use Rattle.planus_view.proofs.sub_views.SubViewsDoubleEndedIterator.next_back.Goals as goal

pub returns-clause-steps : goal.returns-clause-steps
returns-clause-steps g c =
    let s = c.args.self.now in let at = c.at_range.ensures in (
      at.0,
      left_last (ranges_of s) s.front s.back (s.back - 1) at.0 (omega (arith, s.order))
          (omega (arith, s.order)) at.1,
      at.2,
      record { whole = refl; size = refl },
    )
