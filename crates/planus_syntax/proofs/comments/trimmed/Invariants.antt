use Rattle.std.proofs.Common.{◌≡◌, length}
use Rattle.planus_syntax.specs.Comments.{trimmed}
use Rattle.planus_syntax.proofs.comments.trimmed.Given as goal

abbrev pub invariant-text : goal.invariant-text
invariant-text l = trimmed l.rest ≡ trimmed l.text

abbrev pub decreases-text : goal.decreases-text
decreases-text l = length l.rest
