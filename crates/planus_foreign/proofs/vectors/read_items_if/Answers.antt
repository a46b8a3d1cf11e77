use Rattle.std.proofs.Common.{inl, inr, refl}
use Rattle.planus_foreign.proofs.vectors.read_items_if.Goals as goal

pub returns-in-Ok : goal.returns-in-Ok
returns-in-Ok g c = inl (record {
  table = c.in-Ok.table;
  there = c.in-Ok.ensures;
  result = c.plain_vector.result;
  is = c.plain_vector.ensures;
  stores = c.put_if.ensures;
})

pub returns-in-Err : goal.returns-in-Err
returns-in-Err g c = inr (record {
  kind = c.in-Err.kind;
  why = c.in-Err.ensures;
  unchanged = refl;
  said = c.status_of.ensures;
})
