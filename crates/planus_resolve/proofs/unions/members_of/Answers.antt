use Rattle.std.proofs.Common.{◌≡◌, true, false, ◌+◌, ◌++◌, ◌∷◌, [], refl, ap, sym, subst, ◌∙◌, take, drop, map}
use Rattle.std.specs.Prelude.{codes, nat_eq, Some}
use Rattle.std.specs.List.{list_any}
use Rattle.std.proofs.lemmas.List.{map_push, take_all, drop_all}
use Rattle.planus_schema.specs.Distinct.{AreDistinct, is_in}
use Rattle.std.specs.Str.{bytes_eq}
use Rattle.planus_schema.proofs.Lists.{distinct_push}
use Rattle.planus_resolve.specs.inner.Read.{names_of_members}
use Rattle.planus_resolve.specs.inner.Scopes.{scope_heads, scope_space}
use Rattle.planus_syntax.specs.Values.{member_of}
use Rattle.planus_schema.specs.declared.schema.UnionMember.{UnionMember}
use Rattle.planus_resolve.specs.Unions.{tag_in, tags_said}
use Rattle.planus_resolve.proofs.EnumLemmas.{before_none}
use Rattle.planus_resolve.proofs.StructLemmas.{each2_push, map_next, map_rest, drop_next}
use Rattle.planus_resolve.proofs.UnionLemmas.{tags_next, tags_end, tags_within, tags_apart, no_tags, one_name, member_stops, member_name_stops, members_next}
use Rattle.planus_resolve.proofs.unions.members_of.Goals as goal

pub members-init : goal.members-init
members-init c =
    let e = c.new-members.ensures.items in
    record {
      says = rw e tt;
      tags = rw e (before_none (tags_said (Some 0) (map member_of c.args.declared.now)));
      within = rw e refl;
      distinct = no_tags c.new-members.result.items e;
      wrong = rw e refl;
      apart = one_name (names_of_members c.new-members.result.items) (codes "NONE") (ap names_of_members e);
    }

pub members-preserved : goal.members-preserved
members-preserved c =
    let i = c.members.invariant in
    let e = c.in_ok-push.ensures.items in
    let m = c.in-Ok.value in
    let ms = c.members.members.items in
    let ds = c.args.declared.now in
    let n = c.members.member-index in
    let t = map_next member_of ds n c.member-item.result c.members-test.true c.member-item.is in
    let r = map_rest member_of ds n c.member-item.result c.members-test.true c.member-item.is in
    let d = drop_next c.args.declared.now c.members.member-index c.member-item.result c.members-test.true c.member-item.is in
    let free : is_in (names_of_members ms) m.name.items ≡ false = (ap (λ xs. is_in (names_of_members xs) m.name.items) (sym c.deref-in-members.ensures.value) ∙ ap (is_in (names_of_members c.deref-in-members.result.now)) (sym c.deref-in-members-2.ensures.value) ∙ sym c.is_taken.ensures ∙ c.if-is_taken.false) in
    let named : names_of_members c.push.new.self.items ≡ names_of_members ms ++ m.name.items ∷ [] = ap names_of_members e ∙ ap (λ ns. codes "NONE" ∷ ns) (map_push (λ (x : UnionMember). x.name.items) ms m) in
    let p : map tag_in c.push.new.self.items ≡ map tag_in ms ++ m.tag ∷ [] = ap (map tag_in) e ∙ map_push tag_in ms m in
    record {
      says = rw (t, e) (each2_push _ (map member_of (take n ds)) ms (member_of c.member-item.result) m i.says c.in-Ok.ensures.read.says);
      tags = rw p (tags_next (map tag_in ms) m.tag (Some c.members.previous) (member_of c.member-item.result) (map member_of (drop n ds)) (map member_of (drop (n + 1) ds)) _ r c.in-Ok.ensures.read.tag i.tags);
      within = rw p (tags_within (map tag_in ms) m.tag i.within c.in-Ok.ensures.read.within);
      distinct = rw p (tags_apart ms m.tag (ap (list_any (λ (x : UnionMember). nat_eq x.tag m.tag)) (sym c.deref.ensures.value) ∙ c.in-Ok.ensures.read.new) i.distinct);
      wrong = members_next (scope_heads c.args.scope.now) (scope_space c.args.scope.now) (Some c.members.previous) (map tag_in ms) (names_of_members ms) _ c.member-item.result _ _ m.tag _ _ d i.wrong (rw c.deref.ensures.value at c.in-Ok.ensures.wrong)
          (ap (is_in (names_of_members ms)) (sym c.in-Ok.ensures.read.says.name) ∙ free) c.in-Ok.ensures.read.tag p
          (named ∙ ap (λ w. names_of_members ms ++ w ∷ []) c.in-Ok.ensures.read.says.name);
      apart = subst AreDistinct (sym named) (distinct_push bytes_eq (names_of_members ms) m.name.items free i.apart);
    }

pub returns-in-Err-clause-wrong : goal.returns-in-Err-clause-wrong
returns-in-Err-clause-wrong c =
    let d = drop_next c.args.declared.now c.members.member-index c.member-item.result c.members-test.true c.member-item.is in
    member_stops (scope_heads c.args.scope.now) (scope_space c.args.scope.now) (Some c.members.previous) (map tag_in c.members.members.items) (names_of_members c.members.members.items) _ c.member-item.result _ _ _ d c.members.invariant.wrong (rw c.deref.ensures.value at c.in-Err.ensures.wrong)

pub returns-then-is_taken-clause-wrong : goal.returns-then-is_taken-clause-wrong
returns-then-is_taken-clause-wrong c =
    let ms = c.members.members.items in
    let m = c.in-Ok.value in
    let d = drop_next c.args.declared.now c.members.member-index c.member-item.result c.members-test.true c.member-item.is in
    let used : is_in (names_of_members ms) m.name.items ≡ true = (ap (λ xs. is_in (names_of_members xs) m.name.items) (sym c.deref-in-members.ensures.value) ∙ ap (is_in (names_of_members c.deref-in-members.result.now)) (sym c.deref-in-members-2.ensures.value) ∙ sym c.is_taken.ensures ∙ c.if-is_taken.true) in
    rw c.wrong.ensures (member_name_stops (scope_heads c.args.scope.now) (scope_space c.args.scope.now) (Some c.members.previous) (map tag_in ms) (names_of_members ms) _ c.member-item.result _ _ d c.members.invariant.wrong (rw c.deref.ensures.value at c.in-Ok.ensures.wrong)
    (ap (is_in (names_of_members ms)) (sym c.in-Ok.ensures.read.says.name) ∙ used))

pub returns-clause-read : goal.returns-clause-read
returns-clause-read c = record {
  says = let t = take_all c.members.member-index c.args.declared.now c.members-test.false in
      rw t at c.members.invariant.says;
  tags = let d = drop_all c.members.member-index c.args.declared.now c.members-test.false in
      tags_end (map tag_in c.members.members.items) _ (rw d at c.members.invariant.tags);
  sound = record {
    tags = c.members.invariant.within;
    distinct = c.members.invariant.distinct;
    names = c.members.invariant.apart;
  };
}

pub returns-clause-wrong : goal.returns-clause-wrong
returns-clause-wrong c =
    let d = drop_all c.members.member-index c.args.declared.now c.members-test.false in
    sym (rw d at c.members.invariant.wrong)
