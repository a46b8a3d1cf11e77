use Rattle.planus.proofs.Accessors.{view_found, view_refused}
use Rattle.planus.proofs.tables.read.table_fields.table_field.Goals as goal

pub returns-in-Ok-Some : goal.returns-in-Ok-Some
returns-in-Ok-Some g c =
    view_found g.row.V-Kind.Denot g.V.TableView.table c.args.table.now c.args.slot c.args.type_.now
    c.args.method.now c.in-Ok-Some.found c.of_table.result c.of_table.ensures
    (rw c.in-Ok-Some.field-0-is at c.in-Ok-Some.ensures)

pub returns-in-Err : goal.returns-in-Err
returns-in-Err g c =
    view_refused g.row.V-Kind.Denot g.V.TableView.table c.args.table.now c.args.slot c.args.type_.now
    c.args.method.now c.in-Err.error c.in-Err.ensures
