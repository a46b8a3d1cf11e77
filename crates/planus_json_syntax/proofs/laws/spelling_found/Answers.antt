use Rattle.planus_json_syntax.proofs.FoundValues.{found_spelled}
use Rattle.planus_json_syntax.proofs.laws.spelling_found.Goals as goal

pub returns : goal.returns
returns c = found_spelled
