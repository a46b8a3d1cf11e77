use Rattle.std.proofs.Common.{◌≡◌, length, map}
use Rattle.planus_schema.specs.Distinct.{is_in}
use Rattle.planus_schema.specs.declared.schema.UnionMember.{UnionMember}
use Rattle.planus_resolve.proofs.unions.is_taken.Given as goal

abbrev pub invariant-members : goal.invariant-members
invariant-members l = is_in (map (λ (m : UnionMember). m.name.items) l.rest) l.name
    ≡ is_in (map (λ (m : UnionMember). m.name.items) l.members) l.name

abbrev pub decreases-members : goal.decreases-members
decreases-members l = length l.rest
