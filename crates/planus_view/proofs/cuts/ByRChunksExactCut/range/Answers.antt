use Rattle.std.proofs.Common.{◌≡◌, ◌+◌, ◌-◌, ◌*◌, ◌∙◌, arith, sym}
use Rattle.planus_view.proofs.RangeLists.{suc_times, rchunks_exact_at, same_range}
use Rattle.planus_view.proofs.cuts.ByRChunksExactCut.range.Goals as goal

pub overflow_sub-result : goal.overflow_sub-result
overflow_sub-result c =
    let at =
    rchunks_exact_at c.args._len c.args.size c.args._i c.requires.positive c.requires.inside in
    let left = c.requires.left in
    omega (arith, at.1, left, suc_times c.args._i c.args.size)

pub returns-clause-range : goal.returns-clause-range
returns-clause-range c =
    let at =
    rchunks_exact_at c.args._len c.args.size c.args._i c.requires.positive c.requires.inside in
    let left = c.requires.left in
    let begin : c.args._len - (c.args._i + 1) * c.args.size ≡ c.args.left - c.args.size =
    omega (arith, left, suc_times c.args._i c.args.size) in
    at.0 ∙ same_range (c.args._len - (c.args._i + 1) * c.args.size)
    (c.args._len - c.args._i * c.args.size) (c.args.left - c.args.size) c.args.left begin (sym left)
