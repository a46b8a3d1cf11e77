use Rattle.std.proofs.Common.{◌+◌, refl, sym, subst, Ok, None}
use Rattle.planus_read.specs.Tables.{slot_of, table_object, table_start, UnionAnswer}
use Rattle.std.proofs.Common.{false}
use Rattle.planus_verify.specs.Schemas.{Shapes}
use Rattle.planus_views.specs.Fields.{IsMember}
use Rattle.planus_views.proofs.UnionFacts.{union_unbroken, is_member}
use Rattle.planus.proofs.UnionAccessors.{union_read}
use Rattle.planus_views.specs.Views.{view_table}
use Rattle.planus_views.specs.Members.{member_tag, member_start, member_bytes, some_if}
use Rattle.planus_views.proofs.UnionAnswers.{located_as, union_at, some_union}
use Rattle.planus_views.proofs.view.View.union_field.Goals as goal

pub member-requires : goal.member-requires
member-requires g c =
    union_unbroken g.K.VerifiedKind.schema g.K.VerifiedKind.index g.U.Kind.UnionKind.union
    c.args.slot false (view_table c.args.self.now) c.args.self.now.verified c.requires.has

pub of_member-requires : goal.of_member-requires
of_member-requires g c = λ k. (
  (refl, tt),
  subst (λ (s : Shapes). IsMember s g.U.Kind.UnionKind.union (member_tag c.in-Some.member) (member_start c.in-Some.member) (member_bytes c.in-Some.member) c.in-Some.member.offset) (sym c.requires.same)
      (subst (λ l. IsMember g.K.VerifiedKind.schema g.U.Kind.UnionKind.union (member_tag c.in-Some.member) (member_start c.in-Some.member) l c.in-Some.member.offset) (sym c.in-Some.ensures.bytes)
      (subst (λ f. IsMember g.K.VerifiedKind.schema g.U.Kind.UnionKind.union (member_tag c.in-Some.member) (member_start c.in-Some.member) (table_object (view_table c.args.self.now)) f) (sym c.in-Some.ensures.offset)
      (subst (λ n. IsMember g.K.VerifiedKind.schema g.U.Kind.UnionKind.union (member_tag c.in-Some.member) n (table_object (view_table c.args.self.now)) (slot_of (view_table c.args.self.now) (c.args.slot + 1))) (sym c.in-Some.ensures.begin)
      (is_member g.K.VerifiedKind.schema g.K.VerifiedKind.index g.U.Kind.UnionKind.union
      c.args.slot false (view_table c.args.self.now)
      c.args.self.now.verified c.requires.has (member_tag c.in-Some.member)
      c.in-Some.ensures.some)))),
)

pub returns-in-Some : goal.returns-in-Some
returns-in-Some g c = λ type_ method r located.
    let table = view_table c.args.self.now in
    let there = c.in-Some.ensures in
    let answer = g.U.UnionOf.checked c.of_member.result in
    union_read g.U.UnionOf.reads table c.args.slot type_ method g.row.U-Kind.Denot r
    (located_as (UnionAnswer g.U.UnionOf.reads table c.args.slot) (some_if answer) type_ method
    (table_start table) r
    (some_union g.U.UnionOf.reads table c.args.slot (member_tag c.in-Some.member) answer there.some
    (union_at g.U.UnionOf.reads table c.args.slot c.in-Some.member answer there.bytes there.begin
    there.offset c.of_member.ensures)) located)

pub returns-in-None : goal.returns-in-None
returns-in-None g c = λ type_ method r located.
    let table = view_table c.args.self.now in
    union_read g.U.UnionOf.reads table c.args.slot type_ method g.row.U-Kind.Denot r
    (located_as (UnionAnswer g.U.UnionOf.reads table c.args.slot) (Ok None) type_ method
    (table_start table) r c.in-None.ensures.none located)
