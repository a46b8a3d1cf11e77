use Rattle.std.proofs.Common.{◌≡◌, map, take}
use Rattle.planus_dot.specs.Rows.{row_view, struct_row}
use Rattle.planus_dot.proofs.rows.struct_rows.Given as goal

abbrev pub invariant-fields : goal.invariant-fields
invariant-fields l = map row_view l.rows.items ≡ map struct_row (take l.field-index l.fields)
