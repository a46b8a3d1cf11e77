use Rattle.std.proofs.Common.{append_assoc}
use Rattle.planus.proofs.tables.line.fields.Tuple2Fields.write.Goals as goal

pub returns-clause-kept : goal.returns-clause-kept
returns-clause-kept g c = simp append_assoc (simp append_assoc at c.write.ensures.kept)
