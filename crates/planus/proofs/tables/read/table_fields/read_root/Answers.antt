use Rattle.planus.proofs.Roots.{root_viewed}
use Rattle.planus.proofs.tables.read.table_fields.read_root.Goals as goal

pub returns : goal.returns
returns g c =
    root_viewed g.V.Kind.TableKind.name g.V.TableView.table c.args.bytes.now c.read_as_root.result
    c.viewed.result c.viewed.ensures c.read_as_root.ensures
