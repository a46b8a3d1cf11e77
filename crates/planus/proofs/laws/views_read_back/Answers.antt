use Rattle.planus.proofs.ReadBack.{roots_read_back, items_read_back, references_read_back}
use Rattle.planus.proofs.laws.views_read_back.Goals as goal

pub returns-clause-root : goal.returns-clause-root
returns-clause-root g c = roots_read_back

pub returns-clause-item : goal.returns-clause-item
returns-clause-item g c = items_read_back

pub returns-clause-reference : goal.returns-clause-reference
returns-clause-reference g c = references_read_back
