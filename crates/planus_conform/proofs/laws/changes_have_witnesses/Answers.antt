use Rattle.planus_conform.proofs.Witnesses.{changes_show}
use Rattle.planus_conform.proofs.laws.changes_have_witnesses.Goals as goal

pub returns : goal.returns
returns c = changes_show
