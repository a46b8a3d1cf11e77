use Rattle.planus_view.proofs.ReadBack.{plain_lists, reference_lists}
use Rattle.planus_view.proofs.laws.lists_read_back.Goals as goal

pub returns-clause-plain : goal.returns-clause-plain
returns-clause-plain g c = plain_lists g.row.T.Denot g.T.Stands.Plain

pub returns-clause-references : goal.returns-clause-references
returns-clause-references g c = reference_lists g.row.T.Denot g.T.Stands.Plain
