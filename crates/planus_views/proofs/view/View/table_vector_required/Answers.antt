use Rattle.std.proofs.Common.{Ok, refl, subst, sym, ℕ, ◌+◌}
use Rattle.planus.specs.Accessors.{tables_kind}
use Rattle.planus.specs.ReadVectors.{reads_vector}
use Rattle.planus.proofs.Accessors.{required_read, tables_law}
use Rattle.std.proofs.Common.{true}
use Rattle.planus_verify.specs.Schemas.{Shapes}
use Rattle.std.proofs.Math.Logic.{∥∥₁_map}
use Rattle.planus_read.specs.Reading.{items_at}
use Rattle.planus_views.specs.Fields.{EachHolds, TableHolds}
use Rattle.planus_verify.specs.declared.schema.ValueKind.TheVariants as value
use Rattle.planus_views.proofs.Fields.{place_holds, faults_of, each_table, field_answered, is_present}
use Rattle.planus_read.specs.Slices.{slice_bytes, slice_start}
use Rattle.planus_views.specs.Views.{view_table}
use Rattle.planus_views.proofs.view.View.table_vector_required.Goals as goal

pub tables_unchecked-requires : goal.tables_unchecked-requires
tables_unchecked-requires g c =
    subst (λ (s : Shapes). ∥ ((n : ℕ) × EachHolds
    (TableHolds s n g.V.Kind.VerifiedKind.index (slice_start c.in-Some.buffer
    + items_at (slice_bytes c.in-Some.buffer) c.in-Some.offset))
    (slice_bytes c.in-Some.buffer) c.in-Some.offset) ∥₁) (sym c.requires.same)
    (∥∥₁_map (place_holds g.K.VerifiedKind.schema g.K.VerifiedKind.index
    c.args.slot true (value.Tables g.V.Kind.VerifiedKind.index) (view_table c.args.self.now) _ _ _
    c.args.self.now.verified c.requires.has c.in-Some.ensures.some)
    (λ h. (
      h.0,
      each_table g.K.VerifiedKind.schema h.0 g.V.Kind.VerifiedKind.index
          (faults_of g.K.VerifiedKind.index (view_table c.args.self.now) c.args.slot) (slice_bytes c.in-Some.buffer)
          (slice_start c.in-Some.buffer) c.in-Some.offset h.1,
    )))

pub unreachable-requires : goal.unreachable-requires
unreachable-requires g c =
    is_present g.K.VerifiedKind.schema g.K.VerifiedKind.index c.args.slot
    (value.Tables g.V.Kind.VerifiedKind.index) (view_table c.args.self.now) c.args.self.now.verified c.requires.has c.in-None.ensures.none

pub returns : goal.returns
returns g c = λ type_ method.
    required_read (tables_kind g.row.V-Kind.Denot) (tables_law _ _ g.row.V-Kind.Denot refl) (view_table c.args.self.now) c.args.slot type_ method
    (Ok c.tables_unchecked.result.references)
    (field_answered (reads_vector _ _) (view_table c.args.self.now) c.args.slot _ _ _ c.tables_unchecked.result.references
    c.in-Some.ensures.some c.tables_unchecked.ensures)
