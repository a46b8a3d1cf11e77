use Rattle.std.proofs.Common.{refl}
use Rattle.planus.specs.Accessors.{texts_kind}
use Rattle.planus.proofs.Accessors.{field_read, texts_law}
use Rattle.planus.proofs.tables.read.text_fields.text_vector.Goals as goal

pub returns : goal.returns
returns c =
    field_read texts_kind (texts_law _ _ refl) c.args.table.now c.args.slot c.args.type_.now c.args.method.now
    c.access.result c.access.ensures
