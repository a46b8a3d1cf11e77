use Rattle.std.proofs.Common.{arith}
use Rattle.planus_view.proofs.RangeLists.{suc_times, chunks_exact_at}
use Rattle.planus_view.proofs.cuts.ByChunksExactCut.rest_after.Goals as goal

pub overflow_sub-result : goal.overflow_sub-result
overflow_sub-result c =
    let at =
    chunks_exact_at c.args._len c.args.size c.args._i c.requires.positive c.requires.inside in
    let left = c.requires.left in
    omega (arith, at.1, left, suc_times c.args._i c.args.size)
