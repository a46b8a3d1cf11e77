use Rattle.std.proofs.Common.{◌≡◌, length}
use Rattle.std.specs.List.{list_all}
use Rattle.planus_schema.specs.Names.{is_name_byte}
use Rattle.planus_schema.proofs.scope.is_name.Given as goal

abbrev pub invariant-bytes : goal.invariant-bytes
invariant-bytes l = list_all is_name_byte l.rest ≡ list_all is_name_byte l.name

abbrev pub decreases-bytes : goal.decreases-bytes
decreases-bytes l = length l.rest
