-- Laws for the contents of unions and union vectors.
use Rattle.std.specs.Prelude.{◌≡◌, ℕ, Option, Some, None}
use Rattle.std.specs.Int.{w8, to_le_bytes}
use Rattle.std.specs.Option.{option_map}
use Rattle.std.proofs.Common.{subst, sym, ap}
use Rattle.planus_read.specs.Values.{Field, plain, reference, tags, values as values_field}
use Rattle.planus_write.specs.History.{History}
use Rattle.planus_write.specs.State.{Extends}
use Rattle.planus_write.specs.Unions.{union_reach}
use Rattle.planus_write.specs.declared.offset.Offset.{Offset}
use Rattle.planus_write.specs.declared.union_offset.UnionOffset.{UnionOffset}
use Rattle.planus_write.specs.declared.union_vector_offset.UnionVectorOffset.{UnionVectorOffset}
use Rattle.planus_write.specs.Contents.{Content, FieldIs, UnionHolds}
use Rattle.planus_fields.specs.Contents.{HoldsIf}
use Rattle.planus_write.specs.Contents.{UnionVectorHolds}
use Rattle.planus.specs.Contents.{value_content, tag_content, tags_content, values_content}
use Rattle.planus_write.specs.lemmas.ContentLaws.{field_stays}

pub union_value_holds : {T U : Type 0} (offset_of : UnionOffset T → Offset U)
    → ((union : UnionOffset T) → (offset_of union).distance ≡ union_reach union)
    → (before after : History) (content : Option (ℕ × Content)) (union : Option (UnionOffset T))
    → Extends before after → UnionHolds before content union
    → HoldsIf after (value_content content) (λ offset. reference offset.distance)
    (option_map offset_of union)
union_value_holds offset_of is before after None None extends holds = tt
union_value_holds offset_of is before after (Some content) (Some union) extends holds =
    field_stays before after content.1 _ extends
    (subst (λ (d : ℕ). FieldIs before content.1 (reference d)) (sym (is union)) holds.1)
union_value_holds offset_of is before after None (Some union) extends holds = holds
union_value_holds offset_of is before after (Some content) None extends holds = holds

pub union_tag_holds : {T : Type 0} (before after : History) (content : Option (ℕ × Content))
    (union : Option (UnionOffset T)) → UnionHolds before content union
    → HoldsIf after (tag_content content)
    (λ tag. plain (record { bytes = to_le_bytes w8 tag; alignment = 1 }))
    (option_map (λ union. union.tag) union)
union_tag_holds before after None None holds = tt
union_tag_holds before after (Some content) (Some union) holds =
    ap (λ (tag : ℕ). plain (record { bytes = to_le_bytes w8 tag; alignment = 1 })) holds.0
union_tag_holds before after None (Some union) holds = holds
union_tag_holds before after (Some content) None holds = holds

module _ {T A : Type 0} (of : UnionVectorOffset T → A) (field : A → Field) where
  pub list_tags_hold
      : ((vector : UnionVectorOffset T) → field (of vector) ≡ tags vector.tags.distance)
      → (before after : History) (contents : Option (Content × Content))
      (vector : Option (UnionVectorOffset T))
      → Extends before after → UnionVectorHolds before contents vector
      → HoldsIf after (tags_content contents) field (option_map of vector)
  list_tags_hold is before after None None extends holds = tt
  list_tags_hold is before after (Some contents) (Some vector) extends holds =
      field_stays before after contents.0 _ extends
      (subst (λ (field : Field). FieldIs before contents.0 field) (sym (is vector)) holds.0)
  list_tags_hold is before after None (Some vector) extends holds = holds
  list_tags_hold is before after (Some contents) None extends holds = holds

  pub list_values_hold
      : ((vector : UnionVectorOffset T) → field (of vector) ≡ values_field vector.values.distance)
      → (before after : History) (contents : Option (Content × Content))
      (vector : Option (UnionVectorOffset T))
      → Extends before after → UnionVectorHolds before contents vector
      → HoldsIf after (values_content contents) field (option_map of vector)
  list_values_hold is before after None None extends holds = tt
  list_values_hold is before after (Some contents) (Some vector) extends holds =
      field_stays before after contents.1 _ extends
      (subst (λ (field : Field). FieldIs before contents.1 field) (sym (is vector)) holds.1)
  list_values_hold is before after None (Some vector) extends holds = holds
  list_values_hold is before after (Some contents) None extends holds = holds
