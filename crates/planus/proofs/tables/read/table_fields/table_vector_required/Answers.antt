use Rattle.std.proofs.Common.{refl}
use Rattle.planus.specs.Accessors.{tables_kind}
use Rattle.planus.proofs.Accessors.{required_read, tables_law}
use Rattle.planus.proofs.tables.read.table_fields.table_vector_required.Goals as goal

pub returns : goal.returns
returns g c =
    required_read (tables_kind g.row.V-Kind.Denot) (tables_law _ _ g.row.V-Kind.Denot refl) c.args.table.now c.args.slot c.args.type_.now c.args.method.now
    c.access_required.result c.access_required.ensures
