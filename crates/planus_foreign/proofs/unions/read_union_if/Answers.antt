use Rattle.std.proofs.Common.{inl, inr, refl}
use Rattle.planus_foreign.proofs.unions.read_union_if.Goals as goal

pub returns-in-Ok : goal.returns-in-Ok
returns-in-Ok c = inl (record {
  table = c.in-Ok.table;
  there = c.in-Ok.ensures;
  result = c.union_field.result;
  is = c.union_field.ensures;
  stores = c.put_if.ensures;
})

pub returns-in-Err : goal.returns-in-Err
returns-in-Err c = inr (record {
  kind = c.in-Err.kind;
  why = c.in-Err.ensures;
  unchanged = refl;
  said = c.status_of.ensures;
})
