use Rattle.std.proofs.Common.{◌≡◌, map, drop}
use Rattle.std.specs.Prelude.{Some}
use Rattle.planus_schema.specs.Plans.{line_of}
use Rattle.planus_tie.specs.Views.{have_views}
use Rattle.planus_tie.proofs.views.have_views.Given as goal

abbrev pub invariant-loop-line : goal.invariant-loop-line
invariant-loop-line l =
    have_views l.naming l.totals (Some l.rest) (map line_of (drop l.line-index l.lines))
    ≡ have_views l.naming l.totals (Some l.text) (map line_of l.lines)
