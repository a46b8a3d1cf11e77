use Rattle.planus_views.proofs.WrittenTables.{written_is_verified, written_passes}
use Rattle.planus_views.proofs.laws.what_was_written_verifies.Goals as goal

pub returns-clause-verified : goal.returns-clause-verified
returns-clause-verified c = written_is_verified

pub returns-clause-passes : goal.returns-clause-passes
returns-clause-passes c = written_passes
