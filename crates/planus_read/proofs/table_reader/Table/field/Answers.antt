use Rattle.std.proofs.Common.{rules}
use Rattle.planus_read.proofs.table_reader.Table.field.Goals as goal

pub returns : goal.returns
returns g c = search rules steps 1000000
