use Rattle.std.proofs.Common.{◌≡◌, ◌≤◌, ◌++◌, List, length, map}
use Rattle.planus_syntax.specs.Spelled.{Part, AreParts, spelled}
use Rattle.planus_syntax.specs.Comments.{elements_in, elements_of}
use Rattle.planus_syntax.specs.Elements.{element_of}
use Rattle.planus_syntax.proofs.comments.elements.Given as goal

abbrev pub invariant-loop-rest : goal.invariant-loop-rest
invariant-loop-rest l = record {
  shorter : length l.rest ≤ length l.text;
  left : (whole : List Part) → AreParts whole → l.text ≡ spelled whole
      → (left : List Part) × AreParts left × (l.rest ≡ spelled left)
      × (map element_of l.elements.items ++ elements_in l.begun left ≡ elements_of whole);
}

abbrev pub decreases-loop-rest : goal.decreases-loop-rest
decreases-loop-rest l = length l.rest
