use Rattle.std.proofs.Common.{◌≡◌, length, map}
use Rattle.planus_json_syntax.specs.Values.{member_view}
use Rattle.planus_pack.specs.Lookup as spec
use Rattle.planus_pack.proofs.lookup.type_given.Given as goal

abbrev pub invariant-members : goal.invariant-members
invariant-members l =
    spec.type_given l.name (map member_view l.rest)
    ≡ spec.type_given l.name (map member_view l.members)

abbrev pub decreases-members : goal.decreases-members
decreases-members l = length l.rest
