use Rattle.std.proofs.Common.{arith}
use Rattle.planus_view.proofs.RangeLists.{windows_at}
use Rattle.planus_view.proofs.cuts.ByWindowsCut.rest_after.Goals as goal

pub overflow_sub-result : goal.overflow_sub-result
overflow_sub-result c =
    let at = windows_at c.args._len c.args._size c.args._i c.requires.positive c.requires.inside in
    let some = c.requires.positive in
    let left = c.requires.left in
    omega (arith, at.1, some, left)
