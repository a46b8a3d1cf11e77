use Rattle.std.proofs.Common.{◌≡◌, drop}
use Rattle.std.specs.Prelude.{None}
use Rattle.planus_cli.specs.Spots.{left_after}
use Rattle.planus_cli.proofs.spots.stated_left.Given as goal

abbrev pub invariant-declarations : goal.invariant-declarations
invariant-declarations l =
    left_after l.place l.found (drop l.declaration-index l.declarations) ≡ left_after l.place None l.declarations
