use Rattle.planus.proofs.UnionAccessors.{vector_read}
use Rattle.planus.proofs.tables.read.union_fields.union_vector.Goals as goal

pub returns : goal.returns
returns g c =
    vector_read c.args.table.now c.args.slot c.args.type_.now c.args.method.now
    c.access_union_vector.result c.access_union_vector.ensures
