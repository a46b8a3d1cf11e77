use Rattle.std.proofs.Common.{◌≡◌, length}
use Rattle.planus_schema.specs.Distinct.{items_of}
use Rattle.planus_schema.specs.Spelling.{set_apart}
use Rattle.planus_schema.proofs.spelling.set_apart.Given as goal

abbrev pub invariant-names : goal.invariant-names
invariant-names l = set_apart (items_of l.rest) (items_of l.names) l.name.items
    ≡ set_apart (items_of l.names) (items_of l.names) l.fn.name.items

abbrev pub decreases-names : goal.decreases-names
decreases-names l = length l.rest
