use Rattle.planus.specs.Accessors.{plains_kind}
use Rattle.planus.proofs.Accessors.{field_read, plains_law}
use Rattle.planus.proofs.tables.read.plain_fields.plain_vector.Goals as goal

pub returns : goal.returns
returns g c =
    field_read plains_kind (plains_law _ _) c.args.table.now c.args.slot c.args.type_.now c.args.method.now
    c.access.result c.access.ensures
