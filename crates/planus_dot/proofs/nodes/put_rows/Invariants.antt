use Rattle.std.proofs.Common.{◌≡◌, ◌++◌, drop, map}
use Rattle.planus_dot.specs.Rows.{row_view}
use Rattle.planus_dot.specs.Nodes.{rows_text}
use Rattle.planus_dot.proofs.nodes.put_rows.Given as goal

abbrev pub invariant-rows : goal.invariant-rows
invariant-rows l = l.text.items ++ rows_text l.declarations (map row_view (drop l.row-index l.rows))
    ≡ l.fn.text.items ++ rows_text l.declarations (map row_view l.rows)
