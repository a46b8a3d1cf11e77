use Rattle.std.proofs.Common.{◌≡◌, ◌∷◌, [], false, map, subst}
use Rattle.std.specs.Prelude.{List, None, Some, codes}
use Rattle.planus_syntax.specs.Values.{attribute_of}
use Rattle.planus_syntax.specs.declared.value.Attribute.{Attribute}
use Rattle.planus_syntax.specs.declared.value.Member.{Member}
use Rattle.planus_resolve.specs.Names.{attribute_named, has}
use Rattle.planus_resolve.specs.inner.Read.{IsUnionRead}
use Rattle.planus_resolve.specs.inner.Scopes.{scope_heads, scope_space}
use Rattle.planus_resolve.specs.Wrong.{Stops}
use Rattle.planus_resolve.specs.WrongUnions.{wrong_flags, wrong_members}
use Rattle.planus_resolve.proofs.FaultLemmas.{stops_first, stops_next}
use Rattle.planus_resolve.proofs.unions.union_of.Goals as goal

pub returns-in-Err-clause-wrong : goal.returns-in-Err-clause-wrong
returns-in-Err-clause-wrong c =
    stops_first _ _ c.in-Err.error
    (subst (λ (xs : List Attribute). Stops (wrong_flags (attribute_named (codes "bit_flags") xs)) c.in-Err.error) c.deref.ensures.value c.in-Err.ensures.wrong)

pub returns-in-Err-members_of-clause-wrong : goal.returns-in-Err-members_of-clause-wrong
returns-in-Err-members_of-clause-wrong c =
    let none = subst (λ (xs : List Attribute). wrong_flags (attribute_named (codes "bit_flags") xs) ≡ None) c.deref.ensures.value c.in-Ok.ensures.wrong in
    stops_next _ _ c.in-Err-members_of.error none
    (subst (λ (ms : List Member). Stops (wrong_members (scope_heads c.args.scope.now) (scope_space c.args.scope.now) (Some 0) [] (codes "NONE" ∷ []) ms) c.in-Err-members_of.error) c.deref-2.ensures.value c.in-Err-members_of.ensures.wrong)

pub returns-clause-wrong : goal.returns-clause-wrong
returns-clause-wrong c =
    let none = subst (λ (xs : List Attribute). wrong_flags (attribute_named (codes "bit_flags") xs) ≡ None) c.deref.ensures.value c.in-Ok.ensures.wrong in
    rw none (rw c.deref-2.ensures.value at c.in-Ok-members_of.ensures.wrong)

pub returns-clause-says : goal.returns-clause-says
returns-clause-says c =
    let read : IsUnionRead (scope_heads c.args.scope.now) (scope_space c.args.scope.now) c.args.declared.now.members.items c.in-Ok-members_of.value =
    subst (λ (ms : List Member). IsUnionRead (scope_heads c.args.scope.now) (scope_space c.args.scope.now) ms c.in-Ok-members_of.value) c.deref-2.ensures.value c.in-Ok-members_of.ensures.read in
    record {
      plain = subst (λ (xs : List Attribute). has (codes "bit_flags") (map attribute_of xs) ≡ false) c.deref.ensures.value c.in-Ok.ensures.plain;
      members = read.says;
      tags = read.tags;
    }
