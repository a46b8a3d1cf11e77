use Rattle.std.proofs.Common.{rules}
use Rattle.planus_read.proofs.size_prefixed.has_identifier.Goals as goal

pub returns-else-bytes-ge8 : goal.returns-else-bytes-ge8
returns-else-bytes-ge8 c = search rules steps 300000
