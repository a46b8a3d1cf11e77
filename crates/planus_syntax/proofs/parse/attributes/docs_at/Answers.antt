use Rattle.planus_syntax.proofs.Loops.{docs_looped, doc_takes}
use Rattle.planus_syntax.proofs.Steps.{uncounted}
use Rattle.planus_syntax.proofs.parse.attributes.docs_at.Goals as goal

pub list_of-requires : goal.list_of-requires
list_of-requires c = (docs_looped, doc_takes)

pub returns : goal.returns
returns c = uncounted _ _ _ _ c.list_of.ensures.reads
