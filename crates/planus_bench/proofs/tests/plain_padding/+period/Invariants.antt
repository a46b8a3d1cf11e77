use Rattle.std.proofs.Common.{length}
use Rattle.planus_bench.proofs.tests.plain_padding.+period.Given as goal

abbrev pub decreases-period : goal.decreases-period
decreases-period l = length l.promises.now
