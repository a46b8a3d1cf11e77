use Rattle.std.proofs.Common.{◌≡◌, ◌++◌, drop}
use Rattle.std.specs.List.{flat_map}
use Rattle.planus_tie.specs.UnionViews.{arm_of}
use Rattle.planus_tie.proofs.union_views.push_arms.Given as goal

abbrev pub invariant-loop-member : goal.invariant-loop-member
invariant-loop-member l = l.out.items ++ flat_map (λ h. arm_of l.naming l.wide h) (drop l.member-index l.members)
    ≡ l.fn.out.items ++ flat_map (λ h. arm_of l.naming l.wide h) l.members
