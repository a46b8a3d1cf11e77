use Rattle.std.proofs.Common.{◌≡◌, drop}
use Rattle.std.specs.List.{list_all}
use Rattle.planus_dump.specs.Schemas.{fixed_kind_fits, fixed_kinds_fit}
use Rattle.planus_dump.proofs.validate.fixed_kinds_fit_in.Given as goal

abbrev pub invariant-loop-field : goal.invariant-loop-field
invariant-loop-field l = list_all (λ field. fixed_kind_fits l.enums l.structs field.kind) (drop l.field-index l.table.fields.items) ≡ fixed_kinds_fit l.enums l.structs l.table
