use Rattle.std.proofs.Common.{◌∙◌, Some, refl, ap, slice_index}
use Rattle.planus_read.specs.Items.{item_method}
use Rattle.planus_read.specs.Slices.{slice_start}
use Rattle.planus.proofs.UnionAccessors.{ReadsItem, union_item_read}
use Rattle.planus_view.specs.UnionVectorView.{view_of}
use Rattle.planus_views.specs.CheckedVectors.{checked_unions}
use Rattle.planus_views.specs.Fields.{IsMember}
use Rattle.planus_views.proofs.UnionAnswers.{converted_as, member_is, member_was}
use Rattle.planus_views.proofs.unions.UnionsReadVerified.item.Goals as goal

pub of_member-requires : goal.of_member-requires
of_member-requires g c κs = (
  (refl, tt),
  member_is (IsMember g.U.Kind.UnionKind.schema g.U.Kind.UnionKind.union) c.new.result _ _ _ _
      (c.new.ensures.tag ∙ ap (λ l. slice_index l c.args.index) c.as_slice-tags.ensures)
      c.new.ensures.begin c.new.ensures.bytes c.new.ensures.offset
      (c.args.self.now.verified c.args.index c.requires),
)

pub returns : goal.returns
returns g c = λ name r located.
    let unions = checked_unions c.args.self.now in
    let answer = g.U.UnionOf.checked c.of_member.result in
    union_item_read g.U.UnionOf.reads name unions c.args.index (Some r) (
      c.requires,
      converted_as (ReadsItem g.U.UnionOf.reads (view_of unions) c.args.index) answer name item_method
          (slice_start c.args.self.now.references) r
          (member_was (λ tag start S f. g.U.UnionOf.reads S start tag f answer) c.new.result _ _ _ _
          (c.new.ensures.tag ∙ ap (λ l. slice_index l c.args.index) c.as_slice-tags.ensures)
          c.new.ensures.begin c.new.ensures.bytes c.new.ensures.offset c.of_member.ensures)
          located,
    )
