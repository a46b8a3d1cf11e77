use Rattle.std.proofs.Common.{◌≡◌, map, take}
use Rattle.planus_dot.specs.Rows.{row_view, table_row}
use Rattle.planus_dot.proofs.rows.table_rows.Given as goal

abbrev pub invariant-fields : goal.invariant-fields
invariant-fields l = map row_view l.rows.items ≡ map table_row (take l.field-index l.fields)
