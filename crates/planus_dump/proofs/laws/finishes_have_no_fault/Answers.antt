use Rattle.planus_dump.proofs.CleanDumps.{finishes_have_no_fault}
use Rattle.planus_dump.proofs.laws.finishes_have_no_fault.Goals as goal

pub returns : goal.returns
returns c = finishes_have_no_fault
