use Rattle.std.proofs.Common.{rules}
use Rattle.planus_read.proofs.table_reader.Table.union_at.Goals as goal

pub returns-then-tag-eq0-clause-none : goal.returns-then-tag-eq0-clause-none
returns-then-tag-eq0-clause-none c = search rules steps 1000000
