use Rattle.planus.proofs.ItemAccessors.{table_view_read}
use Rattle.planus.proofs.laws.table_views_read_back.Goals as goal

pub returns : goal.returns
returns g c = λ name vector index r gets.
    table_view_read g.row.V-Kind.Denot name g.V.TableView.table vector index r gets
