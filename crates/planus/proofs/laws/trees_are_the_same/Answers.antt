use Rattle.planus.proofs.SameTrees.{trees_are_the_same}
use Rattle.planus.proofs.laws.trees_are_the_same.Goals as goal

pub returns : goal.returns
returns c = trees_are_the_same
