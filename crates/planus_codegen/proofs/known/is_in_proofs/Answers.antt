use Rattle.planus_codegen.specs.Known.{in_proofs}
use Rattle.planus_codegen.proofs.known.is_in_proofs.Goals as goal

pub returns : goal.returns
unfolding in_proofs lib.Utf8.encode
returns c = c.has_word.ensures
