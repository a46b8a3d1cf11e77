use Rattle.std.proofs.Common.{Ok, subst, sym, refl, ◌*◌, ◌≡◌, ℕ, List}
use Rattle.planus_verify.specs.Schemas.{Shapes}
use Rattle.std.proofs.Math.Logic.{∥∥₁_map}
use Rattle.planus.specs.Views.{reads_as}
use Rattle.planus.proofs.Accessors.{the_table}
use Rattle.planus.proofs.ItemAccessors.{table_item_is}
use Rattle.planus_view.specs.VectorView.{view_of}
use Rattle.planus_views.specs.CheckedVectors.{checked_tables}
use Rattle.planus_views.specs.Fields.{TableHolds}
use Rattle.planus_views.proofs.Fields.{table_reached}
use Rattle.planus_views.proofs.Merely.{table_had}
use Rattle.planus_read.specs.Slices.{slice_bytes}
use Rattle.planus_views.proofs.table_vectors.TablesReadVerified.item.Goals as goal

held :
    (schema : Shapes) (t : ℕ) (B S : List ℕ) (begin start f : ℕ) → B ≡ S → begin ≡ start
    → ∥ ((n : ℕ) × TableHolds schema n t start S f) ∥₁
    → ∥ ((n : ℕ) × TableHolds schema n t begin B f) ∥₁
held schema t B S begin start f bytes begins h =
    subst (λ l. ∥ ((n : ℕ) × TableHolds schema n t begin l f) ∥₁) (sym bytes)
    (subst (λ k. ∥ ((n : ℕ) × TableHolds schema n t k S f) ∥₁) (sym begins) h)

pub from_buffer_unchecked-table-requires : goal.from_buffer_unchecked-table-requires
from_buffer_unchecked-table-requires g c =
    table_had _ _ (∥∥₁_map (held g.V.Kind.VerifiedKind.schema g.V.Kind.VerifiedKind.index _ _ _ _ _
    c.items.ensures.bytes c.items.ensures.start (c.args.self.now.verified c.args.index c.requires))
    (λ h. h.1.0))

pub of_verified-requires : goal.of_verified-requires
of_verified-requires g c = λ k. (
  (refl, tt),
  ∥∥₁_map (held g.V.Kind.VerifiedKind.schema g.V.Kind.VerifiedKind.index _ _ _ _ _
      c.items.ensures.bytes c.items.ensures.start (c.args.self.now.verified c.args.index c.requires))
      (λ h. (
        h.0,
        table_reached g.V.Kind.VerifiedKind.schema h.0 g.V.Kind.VerifiedKind.index _ _ _
            c.from_buffer_unchecked-table.result c.from_buffer_unchecked-table.ensures h.1,
      )),
)

pub returns : goal.returns
returns g c = λ name.
    let vector = checked_tables c.args.self.now in
    let found = c.from_buffer_unchecked-table.result in
    table_item_is g.row.V-Kind.Denot name g.V.ViewOf.table vector c.args.index
    (Ok (record { table = found; _marker = record {} })) (Ok c.of_verified.result)
    c.of_verified.ensures (
      c.requires,
      subst (λ l. reads_as the_table l (view_of vector).start (c.args.index * 4) (Ok found))
          c.items.ensures.bytes
          (subst (λ s. reads_as the_table (slice_bytes c.items.result) s (c.args.index * 4) (Ok found)) c.items.ensures.start
          c.from_buffer_unchecked-table.ensures),
    )
