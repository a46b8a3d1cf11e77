use Rattle.std.proofs.Common.{◌≡◌, length}
use Rattle.planus_schema.specs.Spelling.{after_dots, last_word}
use Rattle.planus_schema.proofs.spelling.last_word.Given as goal

abbrev pub invariant-bytes : goal.invariant-bytes
invariant-bytes l = after_dots l.word l.rest ≡ last_word l.name

abbrev pub decreases-bytes : goal.decreases-bytes
decreases-bytes l = length l.rest
