use Rattle.std.proofs.Common.{◌≡◌, drop}
use Rattle.std.specs.List.{list_all}
use Rattle.planus_dump.specs.Schemas.{field_fits}
use Rattle.planus_dump.proofs.validate.table_fits_in.Given as goal

abbrev pub invariant-loop-field : goal.invariant-loop-field
invariant-loop-field l = list_all (field_fits l.tables l.unions) (drop l.field-index l.table.fields.items) ≡ list_all (field_fits l.tables l.unions) l.table.fields.items
