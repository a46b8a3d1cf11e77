use Rattle.planus_syntax.specs.Reading.{next_attribute_at}
use Rattle.planus_syntax.proofs.Steps.{fails_here, gives_later}
use Rattle.planus_syntax.proofs.parse.attributes.MoreAttributesItems.item_at.Goals as goal

pub returns-in-Err : goal.returns-in-Err
unfolding next_attribute_at
returns-in-Err c = fails_here _ _ _ c.in-Err.ensures

pub returns : goal.returns
unfolding next_attribute_at
returns c = gives_later _ _ _ _ _ _ c.in-Ok.ensures c.attribute_at.ensures
