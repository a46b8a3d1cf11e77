use Rattle.std.proofs.Common.{◌≡◌, ◌++◌, drop}
use Rattle.std.specs.List.{flat_map}
use Rattle.planus_tie.specs.UnionViews.{variant_of}
use Rattle.planus_tie.proofs.union_views.push_variants.Given as goal

abbrev pub invariant-loop-member : goal.invariant-loop-member
invariant-loop-member l = l.out.items ++ flat_map (λ h. variant_of l.naming h) (drop l.member-index l.members)
    ≡ l.fn.out.items ++ flat_map (λ h. variant_of l.naming h) l.members
