use Rattle.planus.proofs.UnionAccessors.{required_vector_read}
use Rattle.planus.proofs.tables.read.union_fields.union_vector_required.Goals as goal

pub returns : goal.returns
returns g c =
    required_vector_read c.args.table.now c.args.slot c.args.type_.now c.args.method.now
    c.access_union_vector_required.result c.access_union_vector_required.ensures
