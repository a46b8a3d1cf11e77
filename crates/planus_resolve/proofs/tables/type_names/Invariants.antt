use Rattle.std.proofs.Common.{◌≡◌, map, take}
use Rattle.planus_syntax.specs.Values.{names_of}
use Rattle.planus_resolve.specs.Tables.{type_name}
use Rattle.planus_resolve.proofs.tables.type_names.Given as goal

abbrev pub invariant-fields : goal.invariant-fields
invariant-fields l = names_of l.names.items
    ≡ map (λ f. type_name f.name.items) (take l.field-index l.fields)
