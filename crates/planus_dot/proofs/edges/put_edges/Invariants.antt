use Rattle.std.proofs.Common.{◌≡◌, ◌++◌, drop}
use Rattle.std.specs.List.{flat_map}
use Rattle.planus_dot.specs.Edges.{edges_text, body_edges, all_edges}
use Rattle.planus_dot.proofs.edges.put_edges.Given as goal

abbrev pub invariant-declarations : goal.invariant-declarations
invariant-declarations l = l.text.items ++ edges_text (flat_map (body_edges l.declarations) (drop l.declared-index l.declarations))
    ≡ l.fn.text.items ++ edges_text (all_edges l.declarations)
