use Rattle.std.proofs.Common.{Ok}
use Rattle.std.proofs.Math.Logic.{∥∥₁_map}
use Rattle.std.proofs.Common.{true}
use Rattle.planus_verify.specs.declared.schema.ValueKind.TheVariants as value
use Rattle.planus_views.proofs.Fields.{place_holds, field_answered, is_present}
use Rattle.planus_views.specs.Views.{view_table}
use Rattle.planus.specs.Accessors.{plains_kind}
use Rattle.planus.specs.ReadVectors.{reads_vector}
use Rattle.planus.proofs.Accessors.{required_read, plains_law}
use Rattle.planus_views.proofs.Merely.{vector_had}
use Rattle.planus_views.proofs.view.View.plain_vector_required.Goals as goal

pub from_buffer_unchecked-requires : goal.from_buffer_unchecked-requires
from_buffer_unchecked-requires g c =
    vector_had _ _ _ (∥∥₁_map (place_holds g.K.VerifiedKind.schema g.K.VerifiedKind.index
    c.args.slot true (value.Plains g.T.Stands.Plain.SIZE) (view_table c.args.self.now) _ _ _
    c.args.self.now.verified c.requires c.in-Some.ensures.some) (λ h. h.1.0))

pub unreachable-requires : goal.unreachable-requires
unreachable-requires g c =
    is_present g.K.VerifiedKind.schema g.K.VerifiedKind.index c.args.slot
    (value.Plains g.T.Stands.Plain.SIZE) (view_table c.args.self.now) c.args.self.now.verified c.requires c.in-None.ensures.none

pub returns : goal.returns
returns g c = λ type_ method.
    required_read plains_kind (plains_law _ _) (view_table c.args.self.now) c.args.slot type_ method
    (Ok c.from_buffer_unchecked.result)
    (field_answered (reads_vector _ _) (view_table c.args.self.now) c.args.slot _ _ _ c.from_buffer_unchecked.result
    c.in-Some.ensures.some c.from_buffer_unchecked.ensures)
