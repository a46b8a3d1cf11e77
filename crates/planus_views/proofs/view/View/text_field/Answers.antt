use Rattle.std.proofs.Common.{Ok, Some, None}
use Rattle.std.proofs.Math.Logic.{∥∥₁_map}
use Rattle.planus.specs.Accessors.{text_kind}
use Rattle.planus.specs.ReadKinds.{reads_text}
use Rattle.planus.proofs.Accessors.{field_read}
use Rattle.planus.proofs.ReadKinds.{texts_read_back}
use Rattle.std.proofs.Common.{false}
use Rattle.planus_verify.specs.declared.schema.ValueKind.TheVariants as value
use Rattle.planus_views.proofs.Fields.{place_holds, field_answered}
use Rattle.planus_views.proofs.Merely.{text_had}
use Rattle.planus_views.specs.Views.{view_table}
use Rattle.planus_views.proofs.view.View.text_field.Goals as goal

pub text_unchecked-requires : goal.text_unchecked-requires
text_unchecked-requires g c =
    text_had _ _ (∥∥₁_map (place_holds g.K.VerifiedKind.schema g.K.VerifiedKind.index
    c.args.slot false value.Text (view_table c.args.self.now) _ _ _
    c.args.self.now.verified c.requires c.in-Some.ensures.some) (λ h. h.1.0))

pub returns-in-Some : goal.returns-in-Some
returns-in-Some g c = λ type_ method.
    field_read text_kind texts_read_back (view_table c.args.self.now) c.args.slot type_ method
    (Ok (Some c.text_unchecked.result))
    (field_answered reads_text (view_table c.args.self.now) c.args.slot _ _ _ c.text_unchecked.result
    c.in-Some.ensures.some c.text_unchecked.ensures)

pub returns-in-None : goal.returns-in-None
returns-in-None g c = λ type_ method.
    field_read text_kind texts_read_back (view_table c.args.self.now) c.args.slot type_ method
    (Ok None) c.in-None.ensures.none
