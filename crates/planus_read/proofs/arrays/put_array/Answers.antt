use Rattle.std.proofs.Common.{◌∙◌}
use Rattle.planus_read.proofs.ArraySteps.{array_put}
use Rattle.planus_read.proofs.arrays.put_array.Goals as goal

pub returns-clause-encoded : goal.returns-clause-encoded
returns-clause-encoded g c = c.put_items.ensures.encoded ∙ array_put g.T.Plain.shape g.row.N c.args.items.now c.told-items
