use Rattle.std.proofs.Common.{◌≡◌, map, take}
use Rattle.planus_dot.specs.Rows.{row_view, value_row}
use Rattle.planus_dot.proofs.rows.value_rows.Given as goal

abbrev pub invariant-values : goal.invariant-values
invariant-values l = map row_view l.rows.items ≡ map value_row (take l.value-index l.values)
