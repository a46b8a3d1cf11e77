use Rattle.std.proofs.Common.{◌≡◌, ◌++◌, drop}
use Rattle.std.specs.List.{flat_map}
use Rattle.planus_tie.specs.Shapes.{tagged_text}
use Rattle.planus_tie.proofs.schema.push_members.Given as goal

abbrev pub invariant-loop-member : goal.invariant-loop-member
invariant-loop-member l =
    l.out.items ++ flat_map (tagged_text l.comma) (drop l.member-index l.members)
    ≡ l.fn.out.items ++ flat_map (tagged_text l.comma) l.members
