use Rattle.std.proofs.Common.{◌≡◌, length}
use Rattle.std.specs.Prelude.{nat_eq}
use Rattle.std.specs.List.{list_any}
use Rattle.planus_schema.specs.declared.schema.UnionMember.{UnionMember}
use Rattle.planus_resolve.proofs.unions.has_tag.Given as goal

abbrev pub invariant-members : goal.invariant-members
invariant-members l = list_any (λ (m : UnionMember). nat_eq m.tag l.tag) l.rest ≡ list_any (λ (m : UnionMember). nat_eq m.tag l.tag) l.members

abbrev pub decreases-members : goal.decreases-members
decreases-members l = length l.rest
