use Rattle.std.proofs.Common.{length}
use Rattle.planus_tie.proofs.long_structs.count_at.Given as goal

abbrev pub decreases-bytes : goal.decreases-bytes
decreases-bytes l = length l.rest
