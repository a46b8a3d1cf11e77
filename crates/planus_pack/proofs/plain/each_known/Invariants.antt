use Rattle.std.proofs.Common.{◌≡◌, length, map}
use Rattle.planus_json_syntax.specs.Values.{member_view}
use Rattle.planus_pack.specs.Plain as spec
use Rattle.planus_pack.proofs.plain.each_known.Given as goal

abbrev pub invariant-members : goal.invariant-members
invariant-members l =
    spec.each_known l.fields (map member_view l.rest)
    ≡ spec.each_known l.fields (map member_view l.members)

abbrev pub decreases-members : goal.decreases-members
decreases-members l = length l.rest
