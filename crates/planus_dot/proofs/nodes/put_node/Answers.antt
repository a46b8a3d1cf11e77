use Rattle.std.proofs.Common.{◌∷◌, []}
use Rattle.std.specs.Prelude.{codes}
use Rattle.planus_dot.specs.Nodes.{label_text, node_line}
use Rattle.planus_dot.proofs.Added.{line_added}
use Rattle.planus_dot.proofs.nodes.put_node.Goals as goal

pub returns : goal.returns
unfolding node_line
returns c = line_added c.args.text.now.items c.extend_from_slice.new.self.items c.extend_from_slice-2.new.self.items c.extend_from_slice-3.new.self.items
    c.put_label.new.text.items c.extend_from_slice-4.new.self.items
    (codes "  \"") c.deref.result.now c.args.declared.now.name.items (codes "\" [label=\"") (label_text c.args.declarations.now c.args.declared.now) (codes "\"];") (10 ∷ [])
    c.in_ok-extend_from_slice.ensures.items c.in_ok-extend_from_slice-2.ensures.items c.deref.ensures.value
    c.in_ok-extend_from_slice-3.ensures.items c.in_ok-put_label.ensures c.in_ok-extend_from_slice-4.ensures.items
