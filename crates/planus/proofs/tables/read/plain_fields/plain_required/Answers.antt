use Rattle.planus.specs.Accessors.{plain_kind}
use Rattle.planus.proofs.Accessors.{required_read}
use Rattle.planus.proofs.ReadPlain.{plain_read_back}
use Rattle.planus.proofs.tables.read.plain_fields.plain_required.Goals as goal

pub returns : goal.returns
returns g c =
    required_read (plain_kind g.T.Plain.shape) (plain_read_back g.T.Plain.shape) c.args.table.now c.args.slot c.args.type_.now c.args.method.now
    c.access_required.result c.access_required.ensures
