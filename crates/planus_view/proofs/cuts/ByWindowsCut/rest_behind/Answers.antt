use Rattle.planus_view.proofs.RangeLists.{windows_most}
use Rattle.planus_view.proofs.cuts.ByWindowsCut.rest_behind.Goals as goal

pub overflow_sub-result : goal.overflow_sub-result
overflow_sub-result c = windows_most c.args.len c.args._size c.args.i c.requires.positive c.requires.inside
