use Rattle.planus_write.specs.lemmas.PutEntries.{entries_put, entries_too_large}
use Rattle.planus_write.proofs.laws.entries_are_put.Goals as goal

pub returns-clause-put : goal.returns-clause-put
returns-clause-put c = entries_put

pub returns-clause-too_large : goal.returns-clause-too_large
returns-clause-too_large c = entries_too_large
