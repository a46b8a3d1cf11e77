use Rattle.planus.specs.Accessors.{bytes_kind}
use Rattle.planus.proofs.Accessors.{field_read}
use Rattle.planus.proofs.ReadKinds.{byte_lists_read_back}
use Rattle.planus.proofs.tables.read.text_fields.bytes_field.Goals as goal

pub returns : goal.returns
returns c =
    field_read bytes_kind byte_lists_read_back c.args.table.now c.args.slot c.args.type_.now c.args.method.now
    c.access.result c.access.ensures
