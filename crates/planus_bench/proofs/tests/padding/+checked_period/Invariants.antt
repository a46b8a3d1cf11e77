use Rattle.std.proofs.Common.{length}
use Rattle.planus_bench.proofs.tests.padding.+checked_period.Given as goal

abbrev pub decreases-checked_period : goal.decreases-checked_period
decreases-checked_period l = length l.promises.now
