use Rattle.std.proofs.Common.{◌≡◌, ◌+◌, ◌*◌, ◌≤◌, ◌<◌, ℕ, List, length, drop, slice_index, arith, subst, sym, IfSome}
use Rattle.std.proofs.Common.{length-drop}
use Rattle.std.proofs.Math.Logic.{∥∥₁_map}
use Rattle.planus_read.specs.Clauses.{AllHold}
use Rattle.planus_read.specs.Reading.{items_at, count_at, union_vector_clauses}
use Rattle.planus_read.specs.Slices.{slice_bytes, slice_start}
use Rattle.planus_read.proofs.Reading.{union_vector_there}
use Rattle.planus_verify.specs.Schemas.{Shapes, variant_in}
use Rattle.planus_views.specs.Fields.{IsMember, VariantHolds, UnionsHold}
use Rattle.planus_views.proofs.Merely.{unions_had}
use Rattle.planus_views.proofs.unions.Unions.from_buffer_unchecked.Goals as goal

tags_fit :
    (S T : List ℕ) (f g n : ℕ) → AllHold (union_vector_clauses S f g) → T ≡ drop (items_at S f) S
    → n ≡ count_at S f → n ≤ length T
tags_fit S T f g n h bytes count =
    let inside : items_at S f + count_at S f ≤ length S = h.1.1.1.1.1.1.0 in
    subst (λ l. n ≤ length l) (sym bytes) (omega (arith, length-drop (items_at S f) S, inside, count))

references_fit :
    (S R : List ℕ) (f g n : ℕ) → AllHold (union_vector_clauses S f g) → R ≡ drop (items_at S g) S
    → n ≡ count_at S f → n * 4 ≤ length R
references_fit S R f g n h bytes count =
    let inside : items_at S g + count_at S g * 4 ≤ length S = h.1.1.1.1.1.1.1.0 in
    let same : count_at S f ≡ count_at S g = h.1.1.1.1.1.1.1.1.0 in
    subst (λ l. n * 4 ≤ length l) (sym bytes)
    (omega (arith, length-drop (items_at S g) S, inside, same, count))

member_held :
    (schema : Shapes) (u start f g begin n i : ℕ) (S T R : List ℕ) → T ≡ drop (items_at S f) S
    → R ≡ drop (items_at S g) S → begin ≡ start + items_at S g → n ≡ count_at S f
    → ∥ ((k : ℕ) × UnionsHold schema k u start S f g) ∥₁ → i < n
    → IsMember schema u (slice_index T i) begin R (i * 4)
member_held schema u start f g begin n i S T R tags references begins count hold below =
    ∥∥₁_map hold
    (λ h. (
      h.0,
      subst (λ l. IfSome (variant_in schema.variants u (slice_index l i)) (VariantHolds schema h.0 begin R (i * 4)))
          (sym tags)
          (subst (λ l. IfSome (variant_in schema.variants u (slice_index (drop (items_at S f) S) i)) (VariantHolds schema h.0 begin l (i * 4)))
          (sym references)
          (subst (λ k. IfSome (variant_in schema.variants u (slice_index (drop (items_at S f) S) i)) (VariantHolds schema h.0 k (drop (items_at S g) S) (i * 4)))
          (sym begins) (h.1.1 i (subst (λ m. i < m) count below)))),
    ))

pub invariant_of-result : goal.invariant_of-result
invariant_of-result g c =
    let S = slice_bytes c.args.buffer in
    let clauses = unions_had S c.args.tags_offset c.args.references_offset
    (∥∥₁_map c.requires (λ h. h.1.0)) in
    let tags = c.array_unchecked-count.ensures in
    let references = c.array_unchecked.ensures in
    record {
      tags_inside = tags_fit S _ c.args.tags_offset c.args.references_offset _ clauses tags.bytes
          tags.count;
      references_inside = references_fit S _ c.args.tags_offset c.args.references_offset _ clauses
          references.bytes tags.count;
      verified = λ i below. member_held g.U.Kind.UnionKind.schema g.U.Kind.UnionKind.union
          (slice_start c.args.buffer) c.args.tags_offset c.args.references_offset _ _ i S _ _
          tags.bytes references.bytes references.start tags.count c.requires below;
    }

pub returns : goal.returns
returns g c =
    let S = slice_bytes c.args.buffer in
    let f = c.args.tags_offset in
    let k = c.args.references_offset in
    let tags = c.array_unchecked-count.ensures in
    let references = c.array_unchecked.ensures in (
      record { tags = items_at S f; references = items_at S k; count = count_at S f },
      union_vector_there S f k (unions_had S f k (∥∥₁_map c.requires (λ h. h.1.0))),
      λ i. record {
        tags = tags.bytes i;
        references = references.bytes i;
        start = references.start i;
        count = tags.count i;
      },
    )
