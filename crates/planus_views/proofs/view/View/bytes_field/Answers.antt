use Rattle.std.proofs.Common.{Ok, Some, None}
use Rattle.std.proofs.Common.{false}
use Rattle.planus_views.proofs.ByteFields.{bytes_hold}
use Rattle.planus_views.proofs.Fields.{field_answered}
use Rattle.planus_views.specs.Views.{view_table}
use Rattle.planus.specs.Accessors.{bytes_kind}
use Rattle.planus.specs.ReadKinds.{reads_bytes}
use Rattle.planus.proofs.Accessors.{field_read}
use Rattle.planus.proofs.ReadKinds.{byte_lists_read_back}
use Rattle.planus_views.proofs.view.View.bytes_field.Goals as goal

pub bytes_unchecked-requires : goal.bytes_unchecked-requires
bytes_unchecked-requires g c =
    bytes_hold g.K.VerifiedKind.schema g.K.VerifiedKind.index c.args.slot false
    (view_table c.args.self.now) _ _ _ c.args.self.now.verified c.in-Some.ensures.some c.requires

pub returns-in-Some : goal.returns-in-Some
returns-in-Some g c = λ type_ method.
    field_read bytes_kind byte_lists_read_back (view_table c.args.self.now) c.args.slot type_ method
    (Ok (Some c.bytes_unchecked.result))
    (field_answered reads_bytes (view_table c.args.self.now) c.args.slot _ _ _ c.bytes_unchecked.result
    c.in-Some.ensures.some c.bytes_unchecked.ensures)

pub returns-in-None : goal.returns-in-None
returns-in-None g c = λ type_ method.
    field_read bytes_kind byte_lists_read_back (view_table c.args.self.now) c.args.slot type_ method
    (Ok None) c.in-None.ensures.none
