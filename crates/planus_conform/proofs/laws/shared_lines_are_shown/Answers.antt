use Rattle.planus_conform.proofs.ShownWithin.{shared_lines_are_shown}
use Rattle.planus_conform.proofs.laws.shared_lines_are_shown.Goals as goal

pub returns : goal.returns
returns c = shared_lines_are_shown
