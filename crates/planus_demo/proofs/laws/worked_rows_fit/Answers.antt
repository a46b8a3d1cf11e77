use Rattle.planus_demo.proofs.WorkedRows.{worked_rows_fit}
use Rattle.planus_demo.proofs.laws.worked_rows_fit.Goals as goal

pub returns : goal.returns
returns c = worked_rows_fit
