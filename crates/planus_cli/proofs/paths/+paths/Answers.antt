use Rattle.std.proofs.Common.{sym, arith}
use Rattle.planus_json_syntax.specs.Values.{json_view}
use Rattle.planus_cli.proofs.Deeper.{path_ends, path_within}
use Rattle.planus_cli.proofs.paths.+paths.Goals as goal

pub path_to-returns-then-depth-eq0 : goal.path_to-returns-then-depth-eq0
path_to-returns-then-depth-eq0 t c =
    sym (path_ends c.args.place (json_view c.args.json.now) c.args.depth c.if-depth-eq0.true)

pub path_to-returns : goal.path_to-returns
path_to-returns t c =
    rw (path_within c.args.place (json_view c.args.json.now) c.args.depth (omega arith))
    c.in_value.ensures
