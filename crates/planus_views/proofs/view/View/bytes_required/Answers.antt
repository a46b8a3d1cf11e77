use Rattle.std.proofs.Common.{Ok}
use Rattle.std.proofs.Common.{true}
use Rattle.planus_views.proofs.ByteFields.{bytes_hold, bytes_present}
use Rattle.planus_views.proofs.Fields.{field_answered}
use Rattle.planus_views.specs.Views.{view_table}
use Rattle.planus.specs.Accessors.{bytes_kind}
use Rattle.planus.specs.ReadKinds.{reads_bytes}
use Rattle.planus.proofs.Accessors.{required_read}
use Rattle.planus.proofs.ReadKinds.{byte_lists_read_back}
use Rattle.planus_views.proofs.view.View.bytes_required.Goals as goal

pub bytes_unchecked-requires : goal.bytes_unchecked-requires
bytes_unchecked-requires g c =
    bytes_hold g.K.VerifiedKind.schema g.K.VerifiedKind.index c.args.slot true
    (view_table c.args.self.now) _ _ _ c.args.self.now.verified c.in-Some.ensures.some c.requires

pub unreachable-requires : goal.unreachable-requires
unreachable-requires g c =
    bytes_present g.K.VerifiedKind.schema g.K.VerifiedKind.index c.args.slot
    (view_table c.args.self.now) c.args.self.now.verified c.in-None.ensures.none c.requires

pub returns : goal.returns
returns g c = λ type_ method.
    required_read bytes_kind byte_lists_read_back (view_table c.args.self.now) c.args.slot type_ method
    (Ok c.bytes_unchecked.result)
    (field_answered reads_bytes (view_table c.args.self.now) c.args.slot _ _ _ c.bytes_unchecked.result
    c.in-Some.ensures.some c.bytes_unchecked.ensures)
