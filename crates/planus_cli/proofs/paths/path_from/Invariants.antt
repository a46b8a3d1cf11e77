use Rattle.std.proofs.Common.{◌≡◌, length, map}
use Rattle.planus_json_syntax.specs.Values.{json_view}
use Rattle.planus_cli.specs.Paths as spec
use Rattle.planus_cli.proofs.paths.path_from.Given as goal

abbrev pub invariant-values : goal.invariant-values
invariant-values l =
    spec.path_from l.place (map json_view l.rest) ≡ spec.path_from l.place (map json_view l.values)

abbrev pub decreases-values : goal.decreases-values
decreases-values l = length l.rest
