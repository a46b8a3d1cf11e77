use Rattle.std.proofs.Common.{refl}
use Rattle.std.proofs.Math.Logic.{∥∥₁_map}
use Rattle.std.proofs.Common.{true}
use Rattle.planus_verify.specs.declared.schema.ValueKind.TheVariants as value
use Rattle.planus_views.proofs.Fields.{place_holds, table_reached, field_answered, is_present}
use Rattle.planus_views.specs.Views.{view_table}
use Rattle.std.proofs.Common.{subst, sym, refl}
use Rattle.planus.specs.Views.{reads_as}
use Rattle.planus.proofs.Accessors.{view_required, the_table}
use Rattle.planus_verify.specs.Schemas.{Shapes}
use Rattle.planus_verify.specs.Verified.{IsVerified}
use Rattle.planus_views.proofs.Merely.{table_had}
use Rattle.planus_views.proofs.view.View.table_required.Goals as goal

pub from_buffer_unchecked-table-requires : goal.from_buffer_unchecked-table-requires
from_buffer_unchecked-table-requires g c =
    table_had _ _ (∥∥₁_map (place_holds g.K.VerifiedKind.schema g.K.VerifiedKind.index
    c.args.slot true (value.Table g.V.Kind.VerifiedKind.index) (view_table c.args.self.now) _ _ _
    c.args.self.now.verified c.requires.has c.in-Some.ensures.some) (λ h. h.1.0))

pub of_verified-requires : goal.of_verified-requires
of_verified-requires g c = λ k. (
  (refl, tt),
  subst (λ (s : Shapes). IsVerified s g.V.Kind.VerifiedKind.index c.from_buffer_unchecked-table.result) (sym c.requires.same)
      (∥∥₁_map (place_holds g.K.VerifiedKind.schema g.K.VerifiedKind.index
      c.args.slot true (value.Table g.V.Kind.VerifiedKind.index) (view_table c.args.self.now) _ _ _
      c.args.self.now.verified c.requires.has c.in-Some.ensures.some)
      (λ h. (
        h.0,
        table_reached g.K.VerifiedKind.schema h.0 g.V.Kind.VerifiedKind.index _ _ _
            c.from_buffer_unchecked-table.result c.from_buffer_unchecked-table.ensures
            (h.1.0, h.1.1.0),
      ))),
)

pub unreachable-requires : goal.unreachable-requires
unreachable-requires g c =
    is_present g.K.VerifiedKind.schema g.K.VerifiedKind.index c.args.slot
    (value.Table g.V.Kind.VerifiedKind.index) (view_table c.args.self.now) c.args.self.now.verified c.requires.has c.in-None.ensures.none

pub returns : goal.returns
returns g c = λ type_ method.
    view_required g.row.V-Kind.Denot g.V.ViewOf.table (view_table c.args.self.now) c.args.slot type_ method
    c.from_buffer_unchecked-table.result c.of_verified.result c.of_verified.ensures
    (field_answered (reads_as the_table) (view_table c.args.self.now) c.args.slot _ _ _ c.from_buffer_unchecked-table.result
    c.in-Some.ensures.some c.from_buffer_unchecked-table.ensures)
