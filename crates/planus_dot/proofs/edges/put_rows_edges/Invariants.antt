use Rattle.std.proofs.Common.{◌≡◌, ◌++◌, drop, map}
use Rattle.planus_dot.specs.Rows.{row_view}
use Rattle.planus_dot.specs.Edges.{edges_text, rows_edges}
use Rattle.planus_dot.proofs.edges.put_rows_edges.Given as goal

abbrev pub invariant-rows : goal.invariant-rows
invariant-rows l = l.text.items ++ edges_text (rows_edges l.declarations l.from (map row_view (drop l.row-index l.rows)))
    ≡ l.fn.text.items ++ edges_text (rows_edges l.declarations l.from (map row_view l.rows))
