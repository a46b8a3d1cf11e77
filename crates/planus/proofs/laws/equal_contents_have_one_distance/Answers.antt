use Rattle.planus.proofs.Once.{equal_contents_have_one_distance, equal_entries_get_one_distance}
use Rattle.planus.proofs.laws.equal_contents_have_one_distance.Goals as goal

pub returns-clause-places : goal.returns-clause-places
returns-clause-places c = equal_contents_have_one_distance

pub returns-clause-entries : goal.returns-clause-entries
returns-clause-entries c = equal_entries_get_one_distance
