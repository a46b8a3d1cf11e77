use Rattle.std.proofs.Common.{◌≡◌, ◌+◌, ◌-◌, Some, ap, ◌∙◌, arith}
use Rattle.planus_view.proofs.RangeLists.{windows_at}
use Rattle.planus_view.proofs.cuts.ByWindowsCut.range.Goals as goal

pub overflow_add-result : goal.overflow_add-result
overflow_add-result c =
    let at = windows_at c.args.len c.args.size c.args._i c.requires.positive c.requires.inside in
    let left = c.requires.left in
    omega (arith, at.1, left)

pub returns-clause-end : goal.returns-clause-end
returns-clause-end c =
    let at = windows_at c.args.len c.args.size c.args._i c.requires.positive c.requires.inside in
    let left = c.requires.left in
    omega (arith, at.1, left)

pub returns-clause-range : goal.returns-clause-range
returns-clause-range c =
    let at = windows_at c.args.len c.args.size c.args._i c.requires.positive c.requires.inside in
    let left = c.requires.left in
    let begin : c.args._i ≡ c.args.len - c.args.left = omega (arith, at.1, left) in
    at.0 ∙ ap (λ k. Some (k, k + c.args.size)) begin
