use Rattle.planus.proofs.Accessors.{view_required, view_missed}
use Rattle.planus.proofs.tables.read.table_fields.table_required.Goals as goal

pub returns-in-Ok : goal.returns-in-Ok
returns-in-Ok g c =
    view_required g.row.V-Kind.Denot g.V.TableView.table c.args.table.now c.args.slot c.args.type_.now
    c.args.method.now c.in-Ok.found c.of_table.result c.of_table.ensures c.in-Ok.ensures

pub returns-in-Err : goal.returns-in-Err
returns-in-Err g c =
    view_missed g.row.V-Kind.Denot g.V.TableView.table c.args.table.now c.args.slot c.args.type_.now
    c.args.method.now c.in-Err.error c.in-Err.ensures
