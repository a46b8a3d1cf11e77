use Rattle.planus_schema.proofs.NameLemmas.{first_is}
use Rattle.planus_schema.proofs.names.is_first.Goals as goal

pub returns : goal.returns
returns c = first_is c.args.found c.args.index c.eq.result c.eq.ensures
