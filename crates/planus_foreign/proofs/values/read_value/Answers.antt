use Rattle.std.proofs.Common.{inl, inr, refl}
use Rattle.planus_foreign.proofs.values.read_value.Goals as goal

pub returns-in-Ok : goal.returns-in-Ok
returns-in-Ok g c = inl (record {
  table = c.in-Ok.table;
  there = c.in-Ok.ensures;
  result = c.plain_required.result;
  is = c.plain_required.ensures;
  stores = c.put.ensures;
})

pub returns-in-Err : goal.returns-in-Err
returns-in-Err g c = inr (record {
  kind = c.in-Err.kind;
  why = c.in-Err.ensures;
  unchanged = refl;
  said = c.status_of.ensures;
})
