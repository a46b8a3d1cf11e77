use Rattle.std.proofs.Common.{◌≡◌, length, map}
use Rattle.planus_schema.specs.Spelling.{scope_from, names_in}
use Rattle.planus_codegen.specs.Known.{type_word, type_names}
use Rattle.planus_codegen.proofs.names.type_names.Given as goal

abbrev pub invariant-declared : goal.invariant-declared
invariant-declared l = scope_from (names_in l.names) (map (λ d. type_word d.name.items) l.rest)
    ≡ type_names l.declared

abbrev pub decreases-declared : goal.decreases-declared
decreases-declared l = length l.rest
