use Rattle.planus_owned.proofs.Boxes.{views_boxed}
use Rattle.planus_owned.proofs.tables.own_table.Goals as goal

pub returns : goal.returns
returns g c = λ n table slot type_ method returned leads. record {
  read = c.args.read;
  returned = returned;
  made = views_boxed (g.R.Owned.owned n) g.V.TableView.table _ leads c.args.read _ c.boxed_of.ensures;
}
