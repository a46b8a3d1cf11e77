use Rattle.planus_conform.proofs.NoBreaks.{unchanged_breaks_nothing}
use Rattle.planus_conform.proofs.laws.unchanged_schemas_conform.Goals as goal

pub returns : goal.returns
returns c = unchanged_breaks_nothing
