use Rattle.std.proofs.Common.{Err, refl}
use Rattle.planus_foreign.proofs.tables.put_table.Goals as goal

pub returns-in-Err : goal.returns-in-Err
returns-in-Err c = record {
  result = Err c.in-Err.kind;
  is = c.in-Err.ensures;
  stores = (refl, c.status_of.ensures);
}
