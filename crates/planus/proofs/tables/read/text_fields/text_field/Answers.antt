use Rattle.planus.specs.Accessors.{text_kind}
use Rattle.planus.proofs.Accessors.{field_read}
use Rattle.planus.proofs.ReadKinds.{texts_read_back}
use Rattle.planus.proofs.tables.read.text_fields.text_field.Goals as goal

pub returns : goal.returns
returns c =
    field_read text_kind texts_read_back c.args.table.now c.args.slot c.args.type_.now c.args.method.now
    c.access.result c.access.ensures
