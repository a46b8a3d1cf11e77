use Rattle.std.proofs.Common.{None, arith}
use Rattle.planus.proofs.ItemAccessors.{text_item_read}
use Rattle.planus_views.specs.CheckedVectors.{checked_texts}
use Rattle.planus_views.proofs.texts.Texts.get.Goals as goal

pub returns-then-index-len : goal.returns-then-index-len
returns-then-index-len c =
    text_item_read (checked_texts c.args.self.now) c.args.index None
    (omega (arith, c.if-index-len.true, c.len.ensures))
