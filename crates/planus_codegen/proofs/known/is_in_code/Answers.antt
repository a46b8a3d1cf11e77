use Rattle.planus_codegen.specs.Known.{in_code}
use Rattle.planus_codegen.proofs.known.is_in_code.Goals as goal

pub returns : goal.returns
unfolding in_code
returns c = c.has_word.ensures
