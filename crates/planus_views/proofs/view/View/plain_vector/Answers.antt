use Rattle.std.proofs.Common.{Ok, Some, None}
use Rattle.std.proofs.Math.Logic.{∥∥₁_map}
use Rattle.std.proofs.Common.{false}
use Rattle.planus_verify.specs.declared.schema.ValueKind.TheVariants as value
use Rattle.planus_views.proofs.Fields.{place_holds, field_answered}
use Rattle.planus_views.specs.Views.{view_table}
use Rattle.planus.specs.Accessors.{plains_kind}
use Rattle.planus.specs.ReadVectors.{reads_vector}
use Rattle.planus.proofs.Accessors.{field_read, plains_law}
use Rattle.planus_views.proofs.Merely.{vector_had}
use Rattle.planus_views.proofs.view.View.plain_vector.Goals as goal

pub from_buffer_unchecked-requires : goal.from_buffer_unchecked-requires
from_buffer_unchecked-requires g c =
    vector_had _ _ _ (∥∥₁_map (place_holds g.K.VerifiedKind.schema g.K.VerifiedKind.index
    c.args.slot false (value.Plains g.T.Stands.Plain.SIZE) (view_table c.args.self.now) _ _ _
    c.args.self.now.verified c.requires c.in-Some.ensures.some) (λ h. h.1.0))

pub returns-in-Some : goal.returns-in-Some
returns-in-Some g c = λ type_ method.
    field_read plains_kind (plains_law _ _) (view_table c.args.self.now) c.args.slot type_ method
    (Ok (Some c.from_buffer_unchecked.result))
    (field_answered (reads_vector _ _) (view_table c.args.self.now) c.args.slot _ _ _ c.from_buffer_unchecked.result
    c.in-Some.ensures.some c.from_buffer_unchecked.ensures)

pub returns-in-None : goal.returns-in-None
returns-in-None g c = λ type_ method.
    field_read plains_kind (plains_law _ _) (view_table c.args.self.now) c.args.slot type_ method
    (Ok None) c.in-None.ensures.none
