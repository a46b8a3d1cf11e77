use Rattle.std.proofs.Common.{arith}
use Rattle.planus.proofs.ItemAccessors.{no_table_item}
use Rattle.planus_views.specs.CheckedVectors.{checked_tables}
use Rattle.planus_views.proofs.table_vectors.Tables.get.Goals as goal

pub returns-then-index-len : goal.returns-then-index-len
returns-then-index-len g c = λ name.
    no_table_item g.row.V-Kind.Denot name g.V.ViewOf.table (checked_tables c.args.self.now)
    c.args.index (omega (arith, c.if-index-len.true, c.len.ensures))
