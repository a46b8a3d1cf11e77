use Rattle.std.proofs.Common.{◌≡◌, drop, map}
use Rattle.planus_syntax.specs.Comments.{next_piece}
use Rattle.planus_syntax.specs.Elements.{element_of}
use Rattle.planus_syntax.proofs.layout.next_token.Given as goal

abbrev pub invariant-elements : goal.invariant-elements
invariant-elements l =
    next_piece (map element_of (drop l.element-index l.elements)) ≡ next_piece (map element_of l.elements)
