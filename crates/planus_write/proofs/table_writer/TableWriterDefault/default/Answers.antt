use Rattle.std.proofs.Common.{lit≤, refl, []}
use Rattle.planus_write.proofs.ToldTables.{told_nothing}
use Rattle.planus_write.proofs.table_writer.TableWriterDefault.default.Goals as goal

pub invariant_of-result : goal.invariant_of-result
invariant_of-result g c = record { small = lit≤ tt; vtable_small = lit≤ tt; power = (2, refl); bound = lit≤ tt; whole = lit≤ tt; sizes = lit≤ tt; inside = λ enough. enough; told = λ enough. ([], told_nothing g.row.N enough) }

pub returns-clause-told : goal.returns-clause-told
returns-clause-told g c = λ enough. told_nothing g.row.N enough
