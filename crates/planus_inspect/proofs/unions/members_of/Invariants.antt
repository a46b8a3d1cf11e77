use Rattle.std.proofs.Common.{◌≡◌, map, take}
use Rattle.planus_dump.specs.Shapes.{variant_shape}
use Rattle.planus_inspect.specs.Shown.{member_shown}
use Rattle.planus_inspect.proofs.unions.members_of.Given as goal

abbrev pub invariant-loop-member : goal.invariant-loop-member
invariant-loop-member l = map variant_shape l.shown.items ≡ map member_shown (take l.member-index l.members)
