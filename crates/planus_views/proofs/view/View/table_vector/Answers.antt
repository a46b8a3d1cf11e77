use Rattle.std.proofs.Common.{Ok, Some, None, refl, subst, sym, ℕ, ◌+◌}
use Rattle.planus.specs.Accessors.{tables_kind}
use Rattle.planus.specs.ReadVectors.{reads_vector}
use Rattle.planus.proofs.Accessors.{field_read, tables_law}
use Rattle.std.proofs.Common.{false}
use Rattle.planus_verify.specs.Schemas.{Shapes}
use Rattle.std.proofs.Math.Logic.{∥∥₁_map}
use Rattle.planus_read.specs.Reading.{items_at}
use Rattle.planus_views.specs.Fields.{EachHolds, TableHolds}
use Rattle.planus_verify.specs.declared.schema.ValueKind.TheVariants as value
use Rattle.planus_views.proofs.Fields.{place_holds, faults_of, each_table, field_answered}
use Rattle.planus_read.specs.Slices.{slice_bytes, slice_start}
use Rattle.planus_views.specs.Views.{view_table}
use Rattle.planus_views.proofs.view.View.table_vector.Goals as goal

pub tables_unchecked-requires : goal.tables_unchecked-requires
tables_unchecked-requires g c =
    subst (λ (s : Shapes). ∥ ((n : ℕ) × EachHolds
    (TableHolds s n g.V.Kind.VerifiedKind.index (slice_start c.in-Some.buffer
    + items_at (slice_bytes c.in-Some.buffer) c.in-Some.offset))
    (slice_bytes c.in-Some.buffer) c.in-Some.offset) ∥₁) (sym c.requires.same)
    (∥∥₁_map (place_holds g.K.VerifiedKind.schema g.K.VerifiedKind.index
    c.args.slot false (value.Tables g.V.Kind.VerifiedKind.index) (view_table c.args.self.now) _ _ _
    c.args.self.now.verified c.requires.has c.in-Some.ensures.some)
    (λ h. (
      h.0,
      each_table g.K.VerifiedKind.schema h.0 g.V.Kind.VerifiedKind.index
          (faults_of g.K.VerifiedKind.index (view_table c.args.self.now) c.args.slot) (slice_bytes c.in-Some.buffer)
          (slice_start c.in-Some.buffer) c.in-Some.offset h.1,
    )))

pub returns-in-Some : goal.returns-in-Some
returns-in-Some g c = λ type_ method.
    field_read (tables_kind g.row.V-Kind.Denot) (tables_law _ _ g.row.V-Kind.Denot refl) (view_table c.args.self.now) c.args.slot type_ method
    (Ok (Some c.tables_unchecked.result.references))
    (field_answered (reads_vector _ _) (view_table c.args.self.now) c.args.slot _ _ _ c.tables_unchecked.result.references
    c.in-Some.ensures.some c.tables_unchecked.ensures)

pub returns-in-None : goal.returns-in-None
returns-in-None g c = λ type_ method.
    field_read (tables_kind g.row.V-Kind.Denot) (tables_law _ _ g.row.V-Kind.Denot refl) (view_table c.args.self.now) c.args.slot type_ method
    (Ok None) c.in-None.ensures.none
