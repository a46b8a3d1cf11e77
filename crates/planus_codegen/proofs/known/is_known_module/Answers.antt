use Rattle.planus_codegen.specs.Known.{own_modules}
use Rattle.planus_codegen.proofs.known.is_known_module.Goals as goal

pub returns : goal.returns
unfolding own_modules
returns c = c.has_word.ensures
