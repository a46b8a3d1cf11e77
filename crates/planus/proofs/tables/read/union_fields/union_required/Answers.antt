use Rattle.planus.proofs.UnionAccessors.{required_union_read}
use Rattle.planus.proofs.tables.read.union_fields.union_required.Goals as goal

pub returns : goal.returns
returns g c =
    required_union_read g.U.TableReadUnion.reads c.args.table.now c.args.slot c.args.type_.now c.args.method.now
    c.access_union_required.result c.access_union_required.ensures
