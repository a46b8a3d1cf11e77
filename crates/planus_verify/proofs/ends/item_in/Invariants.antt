use Rattle.std.proofs.Common.{drop}
use Rattle.planus_read.specs.Tables.{table_object, table_slots, table_start}
use Rattle.planus_verify.specs.declared.fault.FieldPlace.{FieldPlace}
use Rattle.planus_verify.specs.Soughts.{FieldsEnd}
use Rattle.planus_verify.proofs.ends.item_in.Given as goal

abbrev pub invariant-loop-field : goal.invariant-loop-field
invariant-loop-field l = record {
  there : (last : FieldPlace) → FieldsEnd l.begin l.index (table_object l.table)
      (table_slots l.table) (table_start l.table) (drop l.field-index l.fields) last
      → FieldsEnd l.begin l.index (table_object l.table) (table_slots l.table)
      (table_start l.table) l.fields last;
  left : (last : FieldPlace) → FieldsEnd l.begin l.index (table_object l.table)
      (table_slots l.table) (table_start l.table) l.fields last
      → FieldsEnd l.begin l.index (table_object l.table) (table_slots l.table)
      (table_start l.table) (drop l.field-index l.fields) last;
}
