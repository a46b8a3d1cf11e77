use Rattle.std.proofs.Common.{◌≡◌, ◌++◌, drop}
use Rattle.planus_tie.specs.Shapes.{ranges_from}
use Rattle.planus_tie.proofs.shapes.ranges_of.Given as goal

abbrev pub invariant-declared : goal.invariant-declared
invariant-declared l = l.ranges.items ++ ranges_from l.first (drop l.one-index l.declared)
    ≡ ranges_from 0 l.declared
