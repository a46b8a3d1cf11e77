use Rattle.std.proofs.Common.{◌≡◌, ℕ, List, Ok, refl, sym, subst}
use Rattle.std.proofs.Math.Logic.{∥∥₁_map}
use Rattle.planus.specs.Views.{reads_as}
use Rattle.planus.proofs.Roots.{root_read}
use Rattle.planus.proofs.Accessors.{the_table}
use Rattle.planus_read.specs.Slices.{slice_bytes, slice_start}
use Rattle.planus_verify.specs.Schemas.{Shapes}
use Rattle.planus_views.specs.Fields.{TableHolds}
use Rattle.planus_views.proofs.Fields.{table_reached}
use Rattle.planus_views.proofs.Merely.{table_had}
use Rattle.planus_views.proofs.root.root_unchecked.Goals as goal

-- at an equal slice
root_held :
    (schema : Shapes) (t begin : ℕ) (B S : List ℕ) → B ≡ S → begin ≡ 0
    → ∥ ((n : ℕ) × TableHolds schema n t 0 S 0) ∥₁ → ∥ ((n : ℕ) × TableHolds schema n t begin B 0) ∥₁
root_held schema t begin B S bytes begins h =
    subst (λ l. ∥ ((n : ℕ) × TableHolds schema n t begin l 0) ∥₁) (sym bytes)
    (subst (λ k. ∥ ((n : ℕ) × TableHolds schema n t k S 0) ∥₁) (sym begins) h)

pub from_buffer_unchecked-requires : goal.from_buffer_unchecked-requires
from_buffer_unchecked-requires g c =
    table_had _ _ (∥∥₁_map (root_held g.V.Kind.VerifiedKind.schema g.V.Kind.VerifiedKind.index _ _ _
    c.new-buffer.ensures.bytes c.new-buffer.ensures.start c.requires) (λ h. h.1.0))

pub of_verified-requires : goal.of_verified-requires
of_verified-requires g c κs = (
  (refl, tt),
  ∥∥₁_map (root_held g.V.Kind.VerifiedKind.schema g.V.Kind.VerifiedKind.index _ _ _
      c.new-buffer.ensures.bytes c.new-buffer.ensures.start c.requires)
      (λ h. (
        h.0,
        table_reached g.V.Kind.VerifiedKind.schema h.0 g.V.Kind.VerifiedKind.index _ _ _
            c.from_buffer_unchecked.result c.from_buffer_unchecked.ensures h.1,
      )),
)

pub returns : goal.returns
returns g c = λ name.
    root_read name g.V.ViewOf.table c.args.bytes.now g.row.V-Kind.Denot (Ok c.of_verified.result)
    (subst (λ l. reads_as g.V.ViewOf.table l 0 0 (Ok c.of_verified.result)) c.new-buffer.ensures.bytes
    (subst (λ k. reads_as g.V.ViewOf.table (slice_bytes c.new-buffer.result) k 0 (Ok c.of_verified.result)) c.new-buffer.ensures.start
    (subst (λ t. reads_as the_table (slice_bytes c.new-buffer.result) (slice_start c.new-buffer.result) 0 (Ok t)) (sym c.of_verified.ensures)
    c.from_buffer_unchecked.ensures)))
