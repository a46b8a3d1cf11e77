use Rattle.planus_script.proofs.Words.{clear_followed}
use Rattle.planus_script.proofs.script.clear.Goals as goal

pub returns-in-Some : goal.returns-in-Some
returns-in-Some c = rw c.in-Some.is (clear_followed c.in-Some.field-0.now)
