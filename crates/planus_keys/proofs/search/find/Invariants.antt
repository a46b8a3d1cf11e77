use Rattle.std.proofs.Common.{◌-◌, ◌≤◌}
use Rattle.planus_keys.proofs.Searched.{Passed}
use Rattle.planus_keys.proofs.search.find.Given as goal

abbrev pub invariant-loop-low : goal.invariant-loop-low
invariant-loop-low g l =
    (l.low ≤ l.high) × (l.high ≤ g.V.ReadItems.count l.vector)
    × Passed g.V.ReadItems.is_item (g.B.KeyOf.is_key l.by) (g.P.Probe.order l.probe) l.vector
    (g.V.ReadItems.count l.vector) l.low l.high

abbrev pub decreases-loop-low : goal.decreases-loop-low
decreases-loop-low g l = l.high - l.low
