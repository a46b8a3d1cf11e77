use Rattle.std.proofs.Common.{◌≡◌, drop}
use Rattle.planus_conform.specs.Values.{member_in as member_in_lem}
use Rattle.planus_conform.proofs.unions.member_in.Given as goal

abbrev pub invariant-members : goal.invariant-members
invariant-members l = member_in_lem (drop l.member-index l.members) l.tag ≡ member_in_lem l.members l.tag
