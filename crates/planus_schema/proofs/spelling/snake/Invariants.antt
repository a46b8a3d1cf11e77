use Rattle.std.proofs.Common.{◌≡◌, length, ◌++◌}
use Rattle.planus_schema.specs.Spelling.{snake_after, snake}
use Rattle.planus_schema.proofs.spelling.snake.Given as goal

abbrev pub invariant-bytes : goal.invariant-bytes
invariant-bytes l = l.out.items ++ snake_after l.before l.rest ≡ snake l.name

abbrev pub decreases-bytes : goal.decreases-bytes
decreases-bytes l = length l.rest
