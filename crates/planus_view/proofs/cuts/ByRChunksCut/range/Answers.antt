use Rattle.std.proofs.Common.{◌≡◌, ◌+◌, ◌-◌, ◌*◌, ◌∙◌, arith, sym}
use Rattle.planus_view.proofs.RangeLists.{suc_times, rchunks_at, same_range}
use Rattle.planus_view.proofs.cuts.ByRChunksCut.range.Goals as goal

pub returns-clause-range : goal.returns-clause-range
returns-clause-range c =
    let at = rchunks_at c.args._len c.args.size c.args._i c.requires.positive c.requires.inside in
    let left = c.requires.left in
    let begin : c.args._len - (c.args._i + 1) * c.args.size ≡ c.saturating_sub.result =
    omega (arith, left, c.saturating_sub.ensures, suc_times c.args._i c.args.size) in
    at.0 ∙ same_range (c.args._len - (c.args._i + 1) * c.args.size)
    (c.args._len - c.args._i * c.args.size) c.saturating_sub.result c.args.left begin (sym left)
