-- The text of a graph.
use Rattle.std.specs.Prelude.{ℕ, List, ◌++◌, codes}
use Rattle.planus_schema.specs.declared.schema.Schema.{Schema}
use Rattle.planus_dot.specs.Nodes.{nodes_text}
use Rattle.planus_dot.specs.Edges.{all_edges, edges_text}

unfoldable pub graph_text : Schema → List ℕ
graph_text schema = codes "digraph schema {\n  rankdir=LR;\n  node [shape=record];\n"
    ++ (nodes_text schema.declarations.items
    ++ (edges_text (all_edges schema.declarations.items) ++ codes "}\n"))
