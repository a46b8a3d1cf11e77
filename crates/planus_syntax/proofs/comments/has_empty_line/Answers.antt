use Rattle.std.proofs.Common.{false, ap, ◌∙◌}
use Rattle.planus_syntax.specs.Elements.{apart_bytes}
use Rattle.planus_syntax.proofs.ReadElements.{apart_same}
use Rattle.planus_syntax.proofs.comments.has_empty_line.Goals as goal

pub returns : goal.returns
returns c = λ parts a e.
    c.has_two_feeds.ensures ∙ ap (apart_bytes false false) e ∙ apart_same false false parts a
