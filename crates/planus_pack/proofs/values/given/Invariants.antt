use Rattle.std.proofs.Common.{◌≡◌, length, map}
use Rattle.planus_json_syntax.specs.Values.{member_view}
use Rattle.planus_pack.specs.Parts as spec
use Rattle.planus_pack.proofs.values.given.Given as goal

abbrev pub invariant-members : goal.invariant-members
invariant-members l =
    spec.given l.key (map member_view l.rest) ≡ spec.given l.key (map member_view l.members)

abbrev pub decreases-members : goal.decreases-members
decreases-members l = length l.rest
