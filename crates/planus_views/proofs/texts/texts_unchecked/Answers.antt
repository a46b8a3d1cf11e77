use Rattle.std.proofs.Math.Logic.{∥∥₁_map}
use Rattle.planus_read.specs.Slices.{slice_bytes, slice_start}
use Rattle.planus_views.specs.Fields.{TextHolds}
use Rattle.planus_views.proofs.Merely.{vector_had}
use Rattle.planus_views.proofs.Vectors.{items_held}
use Rattle.planus_views.proofs.texts.texts_unchecked.Goals as goal

pub from_buffer_unchecked-references-requires : goal.from_buffer_unchecked-references-requires
from_buffer_unchecked-references-requires c = vector_had _ _ _ (∥∥₁_map c.requires (λ h. h.0))

pub invariant_of-result : goal.invariant_of-result
invariant_of-result c = record {
  verified = λ i below. ∥∥₁_map c.requires (λ each. items_held TextHolds (slice_bytes c.args.buffer)
      (slice_start c.args.buffer) c.args.offset c.from_buffer_unchecked-references.result
      c.from_buffer_unchecked-references.ensures each i below);
}
