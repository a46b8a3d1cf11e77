use Rattle.std.proofs.Common.{◌≡◌, ◌++◌, map, take}
use Rattle.planus_tie.specs.Shapes.{tagged}
use Rattle.planus_tie.proofs.shapes.push_members.Given as goal

abbrev pub invariant-members : goal.invariant-members
invariant-members l = l.out.items
    ≡ l.fn.out.items ++ map (tagged l.declared l.ranks l.index) (take l.member-index l.members)
