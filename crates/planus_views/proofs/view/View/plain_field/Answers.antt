use Rattle.std.proofs.Common.{Ok, Some, None}
use Rattle.std.proofs.Math.Logic.{∥∥₁_elim}
use Rattle.std.proofs.Props.{props}
use Rattle.std.proofs.Common.{false}
use Rattle.planus_verify.specs.declared.schema.ValueKind.TheVariants as value
use Rattle.planus_views.proofs.Fields.{place_holds, field_answered}
use Rattle.planus_views.specs.Views.{view_table}
use Rattle.planus.specs.ReadPlain.{reads_plain}
use Rattle.planus.proofs.ReadPlain.{field_read}
use Rattle.planus_views.proofs.view.View.plain_field.Goals as goal

pub from_buffer-requires : goal.from_buffer-requires
from_buffer-requires g c =
    ∥∥₁_elim (place_holds g.K.VerifiedKind.schema g.K.VerifiedKind.index
    c.args.slot false (value.Plain g.T.Plain.SIZE) (view_table c.args.self.now) _ _ _
    c.args.self.now.verified c.requires c.in-Some.ensures.some) (Prim.hlevel props) (λ h. h.1.0.0)

pub returns-in-Some : goal.returns-in-Some
returns-in-Some g c = λ type_ method.
    field_read g.T.Plain.shape (view_table c.args.self.now) c.args.slot type_ method
    (Ok (Some c.from_buffer.result))
    (field_answered (reads_plain g.T.Plain.shape) (view_table c.args.self.now) c.args.slot _ _ _ c.from_buffer.result
    c.in-Some.ensures.some c.from_buffer.ensures)

pub returns-in-None : goal.returns-in-None
returns-in-None g c = λ type_ method.
    field_read g.T.Plain.shape (view_table c.args.self.now) c.args.slot type_ method
    (Ok None) c.in-None.ensures.none
