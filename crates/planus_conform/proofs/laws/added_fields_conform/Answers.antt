use Rattle.planus_conform.proofs.NoBreaks.{added_fields_break_nothing}
use Rattle.planus_conform.proofs.laws.added_fields_conform.Goals as goal

pub returns : goal.returns
returns c = added_fields_break_nothing
