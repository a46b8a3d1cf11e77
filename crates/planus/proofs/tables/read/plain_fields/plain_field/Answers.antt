use Rattle.planus.proofs.ReadPlain.{field_read}
use Rattle.planus.proofs.tables.read.plain_fields.plain_field.Goals as goal

pub returns : goal.returns
returns g c =
    field_read g.T.Plain.shape c.args.table.now c.args.slot c.args.type_.now c.args.method.now
    c.access.result c.access.ensures
