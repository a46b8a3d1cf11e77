use Rattle.std.proofs.Common.{map, ap, sym, subst, ◌∙◌}
use Rattle.std.specs.Prelude.{nat_eq, Some}
use Rattle.std.specs.List.{list_any}
use Rattle.std.proofs.lemmas.Result.{IfOk-weaker}
use Rattle.planus_schema.specs.declared.schema.UnionMember.{UnionMember}
use Rattle.planus_resolve.specs.inner.Scopes.{scope_heads, scope_space}
use Rattle.planus_resolve.specs.Wrong.{Tells}
use Rattle.planus_resolve.specs.Unions.{tag_in, is_tag}
use Rattle.planus_resolve.proofs.UnionLemmas.{tags_any, tag_missing, tag_used, tag_free}
use Rattle.planus_resolve.proofs.unions.next_member.Goals as goal

pub returns-in-None-clause-wrong : goal.returns-in-None-clause-wrong
returns-in-None-clause-wrong c =
    rw c.wrong.ensures (tag_missing (scope_heads c.args.scope.now) (scope_space c.args.scope.now) (Some c.args.previous) (map tag_in c.args.members.now) c.args.declared.now (sym c.in-None.ensures.said))

pub returns-then-has_tag-clause-wrong : goal.returns-then-has_tag-clause-wrong
returns-then-has_tag-clause-wrong c =
    rw c.wrong-then-has_tag.ensures (tag_used (scope_heads c.args.scope.now) (scope_space c.args.scope.now) (Some c.args.previous) (map tag_in c.args.members.now) c.args.declared.now _ (sym c.in-Some.ensures.said)
    (tags_any c.args.members.now _ ∙ sym c.has_tag.ensures ∙ c.if-has_tag.true))

pub returns-clause-wrong : goal.returns-clause-wrong
returns-clause-wrong c =
    subst (λ o. Tells o c.member.result) (sym (tag_free (scope_heads c.args.scope.now) (scope_space c.args.scope.now) (Some c.args.previous) (map tag_in c.args.members.now) c.args.declared.now _ (sym c.in-Some.ensures.said)
    (tags_any c.args.members.now _ ∙ sym c.has_tag.ensures ∙ c.if-has_tag.false))) c.member.ensures.wrong

pub returns-clause-read : goal.returns-clause-read
returns-clause-read c =
    let apart = sym c.has_tag.ensures ∙ c.if-has_tag.false in
    IfOk-weaker c.member.result _ _ (λ m r. record {
      says = r.0;
      tag = sym c.in-Some.ensures.said ∙ ap Some (sym r.1);
      within = ap is_tag r.1 ∙ c.in-Some.ensures.within;
      new = ap (λ n. list_any (λ (x : UnionMember). nat_eq x.tag n) c.args.members.now) r.1 ∙ apart;
    }) c.member.ensures.read
