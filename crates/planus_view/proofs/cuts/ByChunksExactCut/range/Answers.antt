use Rattle.std.proofs.Common.{◌≡◌, ◌+◌, ◌-◌, ◌*◌, ◌∙◌, arith}
use Rattle.planus_view.proofs.RangeLists.{suc_times, chunks_exact_at, same_range}
use Rattle.planus_view.proofs.cuts.ByChunksExactCut.range.Goals as goal

pub returns-clause-range : goal.returns-clause-range
returns-clause-range c =
    let at =
    chunks_exact_at c.args.len c.args.size c.args._i c.requires.positive c.requires.inside in
    let left = c.requires.left in
    let begin : c.args._i * c.args.size ≡ c.args.len - c.args.left =
    omega (arith, at.1, left, suc_times c.args._i c.args.size) in
    let end : (c.args._i + 1) * c.args.size ≡ c.args.len - c.args.left + c.args.size =
    omega (arith, at.1, left, suc_times c.args._i c.args.size) in
    at.0 ∙ same_range (c.args._i * c.args.size) ((c.args._i + 1) * c.args.size)
    (c.args.len - c.args.left) (c.args.len - c.args.left + c.args.size) begin end

pub overflow_add-result : goal.overflow_add-result
overflow_add-result c =
    let at =
    chunks_exact_at c.args.len c.args.size c.args._i c.requires.positive c.requires.inside in
    let left = c.requires.left in
    omega (arith, at.1, left, suc_times c.args._i c.args.size)

pub returns-clause-end : goal.returns-clause-end
returns-clause-end c =
    let at =
    chunks_exact_at c.args.len c.args.size c.args._i c.requires.positive c.requires.inside in
    let left = c.requires.left in
    omega (arith, at.1, left, suc_times c.args._i c.args.size)
