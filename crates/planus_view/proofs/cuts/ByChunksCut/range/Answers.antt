use Rattle.std.proofs.Common.{◌≡◌, ◌+◌, ◌-◌, ◌*◌, min, ◌∙◌, arith}
use Rattle.planus_view.proofs.RangeLists.{suc_times, chunks_at, same_range}
use Rattle.planus_view.proofs.cuts.ByChunksCut.range.Goals as goal

pub returns-clause-range : goal.returns-clause-range
returns-clause-range c =
    let at = chunks_at c.args.len c.args.size c.args._i c.requires.positive c.requires.inside in
    let count = c.min.ensures in
    let left = c.requires.left in
    let begin : c.args._i * c.args.size ≡ c.args.len - c.args.left = omega (arith, at.1, left) in
    let end : min ((c.args._i + 1) * c.args.size) c.args.len ≡ c.args.len - c.args.left + c.min.result =
    omega (arith, at.1, count, left, suc_times c.args._i c.args.size) in
    at.0 ∙ same_range (c.args._i * c.args.size) (min ((c.args._i + 1) * c.args.size) c.args.len)
    (c.args.len - c.args.left) (c.args.len - c.args.left + c.min.result) begin end
