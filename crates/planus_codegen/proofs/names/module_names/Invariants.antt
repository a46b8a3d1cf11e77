use Rattle.std.proofs.Common.{◌≡◌, length, map}
use Rattle.planus_schema.specs.Distinct.{items_of}
use Rattle.planus_schema.specs.Spelling.{scope_from, names_in}
use Rattle.planus_codegen.specs.Known.{module_word, modules_of}
use Rattle.planus_codegen.proofs.names.module_names.Given as goal

abbrev pub invariant-types : goal.invariant-types
invariant-types l = scope_from (names_in l.names) (map (module_word (items_of l.types) l.declared) (items_of l.rest))
    ≡ modules_of (items_of l.types) l.declared

abbrev pub decreases-types : goal.decreases-types
decreases-types l = length l.rest
