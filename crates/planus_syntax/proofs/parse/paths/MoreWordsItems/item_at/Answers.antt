use Rattle.planus_syntax.specs.Reading.{dotted_at}
use Rattle.planus_syntax.proofs.Steps.{fails_here, gives_later, plain}
use Rattle.planus_syntax.proofs.parse.paths.MoreWordsItems.item_at.Goals as goal

pub returns-in-Err : goal.returns-in-Err
unfolding dotted_at
returns-in-Err c = fails_here _ _ _ c.in-Err.ensures

pub returns : goal.returns
unfolding dotted_at
returns c = gives_later _ _ _ _ _ _ c.in-Ok.ensures (plain _ _ _ c.word_at.ensures)
