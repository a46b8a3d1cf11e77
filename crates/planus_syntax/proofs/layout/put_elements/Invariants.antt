use Rattle.std.proofs.Common.{◌≡◌, ◌++◌, drop, map}
use Rattle.planus_syntax.specs.Comments.{canonical_after_feed}
use Rattle.planus_syntax.specs.Elements.{element_of, woven_from}
use Rattle.planus_syntax.proofs.layout.put_elements.Given as goal

abbrev pub invariant-elements : goal.invariant-elements
invariant-elements l =
    l.out.items ++ woven_from l.before (map element_of (drop l.index l.elements)) ≡ canonical_after_feed (map element_of l.elements)
