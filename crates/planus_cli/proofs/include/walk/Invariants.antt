use Rattle.std.proofs.Common.{◌≡◌, [], map, reverse}
use Rattle.std.specs.Prelude.{fold}
use Rattle.planus_cli.specs.Including.{entered}
use Rattle.planus_cli.proofs.include.walk.Given as goal

abbrev pub invariant-path : goal.invariant-path
invariant-path l =
    reverse (map (λ s. s.now) l.segments.items) ≡ fold entered [] (map (λ s. s.now) l.yielded)
