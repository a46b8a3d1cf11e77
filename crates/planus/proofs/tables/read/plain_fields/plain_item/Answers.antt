use Rattle.planus.proofs.ReadPlain.{item_read}
use Rattle.planus.proofs.tables.read.plain_fields.plain_item.Goals as goal

pub returns-clause-read_back : goal.returns-clause-read_back
returns-clause-read_back g c = λ B xs x are there fits.
    item_read B xs x c.args.vector.now c.args.index c.get.result are there fits c.get.ensures
