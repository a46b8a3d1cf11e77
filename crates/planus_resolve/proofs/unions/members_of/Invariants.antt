use Rattle.std.proofs.Common.{◌≡◌, ◌++◌, ◌∷◌, [], true, take, drop, map}
use Rattle.std.specs.Prelude.{nat_eq, codes, Some}
use Rattle.std.specs.Option.{option_map}
use Rattle.std.specs.List.{list_all, IsDistinct}
use Rattle.planus_syntax.specs.Values.{member_of}
use Rattle.planus_schema.specs.Distinct.{AreDistinct, Each2}
use Rattle.planus_resolve.specs.inner.Read.{names_of_members}
use Rattle.planus_resolve.specs.inner.Scopes.{scope_heads, scope_space}
use Rattle.planus_resolve.specs.Unions.{SaysMember, tags_said, tag_in, is_tag}
use Rattle.planus_resolve.specs.WrongUnions.{wrong_members}
use Rattle.planus_resolve.proofs.unions.members_of.Given as goal

abbrev pub invariant-members : goal.invariant-members
invariant-members l = record {
  says : Each2 (SaysMember (scope_heads l.scope) (scope_space l.scope))
      (map member_of (take l.member-index l.declared)) l.members.items;
  tags : option_map (λ ns. map tag_in l.members.items ++ ns)
      (tags_said (Some l.previous) (map member_of (drop l.member-index l.declared)))
      ≡ tags_said (Some 0) (map member_of l.declared);
  within : list_all is_tag (map tag_in l.members.items) ≡ true;
  distinct : IsDistinct nat_eq (map tag_in l.members.items);
  wrong : wrong_members (scope_heads l.scope) (scope_space l.scope) (Some l.previous)
      (map tag_in l.members.items) (names_of_members l.members.items) (drop l.member-index l.declared)
      ≡ wrong_members (scope_heads l.scope) (scope_space l.scope) (Some 0) [] (codes "NONE" ∷ []) l.declared;
  apart : AreDistinct (names_of_members l.members.items);
}
