use Rattle.planus.proofs.UnionAccessors.{union_read}
use Rattle.planus.proofs.tables.read.union_fields.union_field.Goals as goal

pub returns : goal.returns
returns g c =
    union_read g.U.TableReadUnion.reads c.args.table.now c.args.slot c.args.type_.now c.args.method.now
    g.row.K.Denot c.access_union.result c.access_union.ensures
