use Rattle.planus_owned.proofs.Boxes.{views_boxed_if}
use Rattle.planus_owned.proofs.tables.own_table_if.Goals as goal

pub returns : goal.returns
returns g c = λ n table slot type_ method returned leads. record {
  read = c.args.read;
  returned = returned;
  made = views_boxed_if (g.R.Owned.owned n) g.V.TableView.table _ leads c.args.read _ c.boxed_if.ensures;
}
