use Rattle.std.proofs.Common.{Ok}
use Rattle.std.proofs.Math.Logic.{∥∥₁_map}
use Rattle.planus.specs.Accessors.{text_kind}
use Rattle.planus.specs.ReadKinds.{reads_text}
use Rattle.planus.proofs.Accessors.{required_read}
use Rattle.planus.proofs.ReadKinds.{texts_read_back}
use Rattle.std.proofs.Common.{true}
use Rattle.planus_verify.specs.declared.schema.ValueKind.TheVariants as value
use Rattle.planus_views.proofs.Fields.{place_holds, field_answered, is_present}
use Rattle.planus_views.proofs.Merely.{text_had}
use Rattle.planus_views.specs.Views.{view_table}
use Rattle.planus_views.proofs.view.View.text_required.Goals as goal

pub text_unchecked-requires : goal.text_unchecked-requires
text_unchecked-requires g c =
    text_had _ _ (∥∥₁_map (place_holds g.K.VerifiedKind.schema g.K.VerifiedKind.index
    c.args.slot true value.Text (view_table c.args.self.now) _ _ _
    c.args.self.now.verified c.requires c.in-Some.ensures.some) (λ h. h.1.0))

pub unreachable-requires : goal.unreachable-requires
unreachable-requires g c =
    is_present g.K.VerifiedKind.schema g.K.VerifiedKind.index c.args.slot
    value.Text (view_table c.args.self.now) c.args.self.now.verified c.requires c.in-None.ensures.none

pub returns : goal.returns
returns g c = λ type_ method.
    required_read text_kind texts_read_back (view_table c.args.self.now) c.args.slot type_ method
    (Ok c.text_unchecked.result)
    (field_answered reads_text (view_table c.args.self.now) c.args.slot _ _ _ c.text_unchecked.result
    c.in-Some.ensures.some c.text_unchecked.ensures)
