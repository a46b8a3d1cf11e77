use Rattle.std.proofs.Common.{sym, ◌∙◌}
use Rattle.std.specs.Int.{byte_len}
use Rattle.planus.proofs.PlainItems.{items_are}
use Rattle.planus.proofs.Structs.{plains_fit}
use Rattle.planus.proofs.replaying.plain_items.PlainItemsOverwrite.overwrite.Goals as goal

pub returns : goal.returns
returns c =
    let items = c.args.self.now in
    let fit = plains_fit items.alignment items.size items.bytes.now items.good in
    c.copy_from_slice.ensures.after ∙ sym (items_are (byte_len fit.known) items.size items.bytes.now fit.fits c.args._place)
