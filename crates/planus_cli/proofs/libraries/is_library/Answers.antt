use Rattle.planus_cli.specs.Printing.{libraries}
use Rattle.planus_cli.proofs.libraries.is_library.Goals as goal

pub returns : goal.returns
unfolding libraries
returns c = c.is_one_of.ensures
