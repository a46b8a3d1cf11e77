use Rattle.planus.proofs.UnionAccessors.{union_item_read}
use Rattle.planus.proofs.tables.read.union_fields.union_item.Goals as goal

pub returns : goal.returns
returns g c =
    union_item_read g.U.TableReadUnion.reads g.U.VectorReadUnion.name c.args.vector.now c.args.index
    c.get.result c.get.ensures
