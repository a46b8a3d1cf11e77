use Rattle.std.proofs.Common.{◌≡◌, length}
use Rattle.planus_pack.specs.Lookup as spec
use Rattle.planus_pack.proofs.lookup.member_called.Given as goal

abbrev pub invariant-members : goal.invariant-members
invariant-members l = spec.member_called l.word l.rest ≡ spec.member_called l.word l.members

abbrev pub decreases-members : goal.decreases-members
decreases-members l = length l.rest
