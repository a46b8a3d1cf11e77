use Rattle.planus_codegen.specs.Known.{errors_in_code}
use Rattle.planus_codegen.proofs.known.is_error_in_code.Goals as goal

pub returns : goal.returns
unfolding errors_in_code
returns c = c.has_word.ensures
