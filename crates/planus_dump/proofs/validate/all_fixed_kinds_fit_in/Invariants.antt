use Rattle.std.proofs.Common.{◌≡◌, drop}
use Rattle.std.specs.List.{list_all}
use Rattle.planus_dump.specs.Schemas.{fixed_kinds_fit}
use Rattle.planus_dump.proofs.validate.all_fixed_kinds_fit_in.Given as goal

abbrev pub invariant-loop-table : goal.invariant-loop-table
invariant-loop-table l = list_all (fixed_kinds_fit l.enums l.structs) (drop l.table-index l.all) ≡ list_all (fixed_kinds_fit l.enums l.structs) l.all
