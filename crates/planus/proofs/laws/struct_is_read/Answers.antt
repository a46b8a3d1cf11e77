use Rattle.planus.proofs.UnionsBack.{given_is_read}
use Rattle.planus.proofs.laws.struct_is_read.Goals as goal

pub returns : goal.returns
returns g c =
    let is = c.requires in
    given_is_read g.U.TableReadUnion.reads (g.T.Plain.shape.encoded c.args.value.now) c.args.given.now
    (g.V.TableView.table c.args.view.now) is.slot is.is_at is.type_ is.method c.args.read.now is.field
