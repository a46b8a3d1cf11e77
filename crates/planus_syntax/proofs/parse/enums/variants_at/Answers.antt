use Rattle.planus_syntax.specs.Reading.{variants_at}
use Rattle.planus_syntax.proofs.Steps.{fails_here, gives_later}
use Rattle.planus_syntax.proofs.Loops.{variants_looped, next_variant_takes}
use Rattle.planus_syntax.proofs.parse.enums.variants_at.Goals as goal

pub returns-in-Err : goal.returns-in-Err
unfolding variants_at
returns-in-Err c = fails_here _ _ _ c.in-Err.ensures

pub returns : goal.returns
unfolding variants_at
returns c = gives_later _ _ _ _ _ _ c.in-Ok.ensures.0 c.list_after.ensures

pub list_after-requires : goal.list_after-requires
list_after-requires c = record { listed = (variants_looped, next_variant_takes); counted = c.in-Ok.ensures.1 }
