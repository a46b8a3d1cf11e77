use Rattle.std.proofs.Common.{◌≡◌, ◌++◌, map, drop}
use Rattle.planus_resolve.specs.Uses.{spot_of, event_of, members_used}
use Rattle.planus_resolve.proofs.uses.put_members.Given as goal

abbrev pub invariant-members : goal.invariant-members
invariant-members l = map event_of l.out.items ++ members_used (spot_of l.spot) (drop l.member-index l.members)
    ≡ map event_of l.fn.out.items ++ members_used (spot_of l.spot) l.members
