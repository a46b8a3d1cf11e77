use Rattle.std.proofs.Common.{◌≡◌, map, drop}
use Rattle.std.specs.List.{list_all}
use Rattle.planus_schema.specs.Plans.{line_of}
use Rattle.planus_tie.specs.Wanted.{is_spelled}
use Rattle.planus_tie.proofs.spelling.are_spelled.Given as goal

abbrev pub invariant-loop-line : goal.invariant-loop-line
invariant-loop-line l = list_all (is_spelled l.naming) (map line_of (drop l.line-index l.lines))
    ≡ list_all (is_spelled l.naming) (map line_of l.lines)
