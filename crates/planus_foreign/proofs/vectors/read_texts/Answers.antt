use Rattle.std.proofs.Common.{inl, inr, refl}
use Rattle.planus_foreign.proofs.vectors.read_texts.Goals as goal

pub returns-in-Ok : goal.returns-in-Ok
returns-in-Ok c = inl (record {
  table = c.in-Ok.table;
  there = c.in-Ok.ensures;
  result = c.text_vector_required.result;
  is = c.text_vector_required.ensures;
  stores = c.put.ensures;
})

pub returns-in-Err : goal.returns-in-Err
returns-in-Err c = inr (record {
  kind = c.in-Err.kind;
  why = c.in-Err.ensures;
  unchanged = refl;
  said = c.status_of.ensures;
})
