use Rattle.planus.specs.Accessors.{text_kind}
use Rattle.planus.proofs.Accessors.{required_read}
use Rattle.planus.proofs.ReadKinds.{texts_read_back}
use Rattle.planus.proofs.tables.read.text_fields.text_required.Goals as goal

pub returns : goal.returns
returns c =
    required_read text_kind texts_read_back c.args.table.now c.args.slot c.args.type_.now c.args.method.now
    c.access_required.result c.access_required.ensures
