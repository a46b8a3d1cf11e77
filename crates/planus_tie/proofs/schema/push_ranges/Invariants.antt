use Rattle.std.proofs.Common.{◌≡◌, ◌++◌, drop}
use Rattle.std.specs.List.{flat_map}
use Rattle.planus_tie.specs.Shapes.{range_text}
use Rattle.planus_tie.proofs.schema.push_ranges.Given as goal

abbrev pub invariant-loop-range : goal.invariant-loop-range
invariant-loop-range l =
    l.out.items ++ flat_map (range_text l.comma) (drop l.range-index l.ranges)
    ≡ l.fn.out.items ++ flat_map (range_text l.comma) l.ranges
