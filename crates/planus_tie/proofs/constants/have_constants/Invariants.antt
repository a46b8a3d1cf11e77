use Rattle.std.proofs.Common.{◌≡◌, map, drop}
use Rattle.std.specs.Prelude.{Some}
use Rattle.planus_schema.specs.Plans.{line_of}
use Rattle.planus_tie.specs.Constants.{have_constants}
use Rattle.planus_tie.proofs.constants.have_constants.Given as goal

abbrev pub invariant-loop-line : goal.invariant-loop-line
invariant-loop-line l =
    have_constants l.naming (Some l.rest) (map line_of (drop l.line-index l.lines))
    ≡ have_constants l.naming (Some l.text) (map line_of l.lines)
