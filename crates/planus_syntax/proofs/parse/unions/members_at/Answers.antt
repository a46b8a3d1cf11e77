use Rattle.planus_syntax.specs.Reading.{members_at}
use Rattle.planus_syntax.proofs.Steps.{fails_here, gives_later}
use Rattle.planus_syntax.proofs.Loops.{members_looped, next_member_takes}
use Rattle.planus_syntax.proofs.parse.unions.members_at.Goals as goal

pub returns-in-Err : goal.returns-in-Err
unfolding members_at
returns-in-Err c = fails_here _ _ _ c.in-Err.ensures

pub returns : goal.returns
unfolding members_at
returns c = gives_later _ _ _ _ _ _ c.in-Ok.ensures.0 c.list_after.ensures

pub list_after-requires : goal.list_after-requires
list_after-requires c = record { listed = (members_looped, next_member_takes); counted = c.in-Ok.ensures.1 }
