use Rattle.std.proofs.Common.{◌+◌, ◌*◌, subst, sym}
use Rattle.std.proofs.Math.Logic.{∥∥₁_map}
use Rattle.planus_read.specs.Reading.{items_at}
use Rattle.planus_read.specs.Slices.{slice_bytes, slice_start}
use Rattle.planus_view.specs.VectorView.{view_of}
use Rattle.planus_views.specs.Fields.{TableHolds}
use Rattle.planus_views.proofs.Merely.{vector_had}
use Rattle.planus_views.proofs.Vectors.{items_held, items_begin}
use Rattle.planus_views.proofs.table_vectors.tables_unchecked.Goals as goal

pub from_buffer_unchecked-references-requires : goal.from_buffer_unchecked-references-requires
from_buffer_unchecked-references-requires g c = vector_had _ _ _ (∥∥₁_map c.requires (λ h. h.1.0))

pub invariant_of-result : goal.invariant_of-result
invariant_of-result g c = record {
  verified = λ i below. ∥∥₁_map c.requires (λ h. (
    h.0,
    subst
        (λ k. TableHolds g.V.Kind.VerifiedKind.schema h.0 g.V.Kind.VerifiedKind.index k
        (view_of c.from_buffer_unchecked-references.result).bytes (i * 4))
        (sym (items_begin (slice_bytes c.args.buffer) (slice_start c.args.buffer) c.args.offset
        c.from_buffer_unchecked-references.result c.from_buffer_unchecked-references.ensures))
        (items_held (TableHolds g.V.Kind.VerifiedKind.schema h.0 g.V.Kind.VerifiedKind.index
        (slice_start c.args.buffer + items_at (slice_bytes c.args.buffer) c.args.offset))
        (slice_bytes c.args.buffer)
        (slice_start c.args.buffer) c.args.offset c.from_buffer_unchecked-references.result
        c.from_buffer_unchecked-references.ensures h.1 i below),
  ));
}
