use Rattle.std.proofs.Common.{◌≡◌, drop}
use Rattle.std.specs.List.{list_all}
use Rattle.planus_dump.specs.Schemas.{table_fits}
use Rattle.planus_dump.proofs.validate.tables_fit_in.Given as goal

abbrev pub invariant-loop-table : goal.invariant-loop-table
invariant-loop-table l = list_all (table_fits l.tables l.unions) (drop l.table-index l.all) ≡ list_all (table_fits l.tables l.unions) l.all
