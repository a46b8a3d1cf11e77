use Rattle.planus_cli.proofs.Fits.{all_fit}
use Rattle.planus_cli.proofs.laws.candidates_fit.Goals as goal

pub returns : goal.returns
returns c = all_fit
