use Rattle.std.proofs.Common.{Ok, true}
use Rattle.std.proofs.Math.Logic.{∥∥₁_elim}
use Rattle.std.proofs.Props.{props}
use Rattle.planus_verify.specs.declared.schema.ValueKind.TheVariants as value
use Rattle.planus.specs.Accessors.{plain_kind}
use Rattle.planus.specs.ReadPlain.{reads_plain}
use Rattle.planus.proofs.Accessors.{required_read}
use Rattle.planus.proofs.ReadPlain.{plain_read_back}
use Rattle.planus_views.specs.Views.{view_table}
use Rattle.planus_views.proofs.Fields.{place_holds, is_present, field_answered}
use Rattle.planus_views.proofs.view.View.plain_required.Goals as goal

pub from_buffer-requires : goal.from_buffer-requires
from_buffer-requires g c =
    ∥∥₁_elim (place_holds g.K.VerifiedKind.schema g.K.VerifiedKind.index c.args.slot true
    (value.Plain g.T.Plain.SIZE) (view_table c.args.self.now) _ _ _ c.args.self.now.verified
    c.requires c.in-Some.ensures.some) (Prim.hlevel props) (λ h. h.1.0.0)

pub unreachable-requires : goal.unreachable-requires
unreachable-requires g c =
    is_present g.K.VerifiedKind.schema g.K.VerifiedKind.index c.args.slot
    (value.Plain g.T.Plain.SIZE) (view_table c.args.self.now) c.args.self.now.verified c.requires
    c.in-None.ensures.none

pub returns : goal.returns
returns g c = λ type_ method.
    required_read (plain_kind g.T.Plain.shape) (plain_read_back g.T.Plain.shape)
    (view_table c.args.self.now) c.args.slot type_ method (Ok c.from_buffer.result)
    (field_answered (reads_plain g.T.Plain.shape) (view_table c.args.self.now) c.args.slot _ _ _
    c.from_buffer.result c.in-Some.ensures.some c.from_buffer.ensures)
