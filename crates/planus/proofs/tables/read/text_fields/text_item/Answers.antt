use Rattle.planus.proofs.ItemAccessors.{text_item_read}
use Rattle.planus.proofs.tables.read.text_fields.text_item.Goals as goal

pub returns : goal.returns
returns c = text_item_read c.args.vector.now c.args.index c.get.result c.get.ensures
