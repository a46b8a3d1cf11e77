use Rattle.planus_codegen.specs.Known.{own_types}
use Rattle.planus_codegen.proofs.known.is_own_type.Goals as goal

pub returns : goal.returns
unfolding own_types
returns c = c.has_word.ensures
