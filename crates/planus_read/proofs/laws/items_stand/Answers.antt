use Rattle.planus_read.proofs.ListItems as lemmas
use Rattle.planus_read.proofs.laws.items_stand.Goals as goal

pub returns-clause-plain : goal.returns-clause-plain
returns-clause-plain c = lemmas.plain_items_stand

pub returns-clause-references : goal.returns-clause-references
returns-clause-references c = lemmas.reference_items_stand

pub returns-clause-unions : goal.returns-clause-unions
returns-clause-unions c = lemmas.union_items_stand
