use Rattle.planus.specs.Accessors.{plains_kind}
use Rattle.planus.proofs.Accessors.{required_read, plains_law}
use Rattle.planus.proofs.tables.read.plain_fields.plain_vector_required.Goals as goal

pub returns : goal.returns
returns g c =
    required_read plains_kind (plains_law _ _) c.args.table.now c.args.slot c.args.type_.now c.args.method.now
    c.access_required.result c.access_required.ensures
