use Rattle.std.proofs.Common.{◌≡◌, ◌++◌, ◌∷◌, [], drop}
use Rattle.std.specs.List.{flat_map}
use Rattle.planus_dot.specs.Nodes.{node_line, nodes_text}
use Rattle.planus_dot.proofs.nodes.put_nodes.Given as goal

abbrev pub invariant-declarations : goal.invariant-declarations
invariant-declarations l =
    l.text.items ++ flat_map (λ d. node_line l.declarations d ++ 10 ∷ []) (drop l.declared-index l.declarations)
    ≡ l.fn.text.items ++ nodes_text l.declarations
