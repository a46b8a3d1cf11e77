use Rattle.std.proofs.Common.{◌≡◌, map, drop}
use Rattle.std.specs.Option.{option_copied}
use Rattle.std.specs.Prelude.{Some}
use Rattle.planus_schema.specs.Plans.{line_of}
use Rattle.planus_tie.specs.Keys.{have_keys}
use Rattle.planus_tie.proofs.keys.have_keys.Given as goal

abbrev pub invariant-loop-line : goal.invariant-loop-line
invariant-loop-line l =
    have_keys l.naming (option_copied l.views) (Some l.rest) (map line_of (drop l.line-index l.lines))
    ≡ have_keys l.naming (option_copied l.views) (Some l.text) (map line_of l.lines)
