use Rattle.std.proofs.Common.{length}
use Rattle.planus_bench.proofs.tests.plain_padding.+keeps.Given as goal

abbrev pub decreases-keeps : goal.decreases-keeps
decreases-keeps l = length l.promises.now
