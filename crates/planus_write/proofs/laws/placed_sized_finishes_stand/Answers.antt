use Rattle.planus_write.specs.lemmas.StandingLaws.{sized_finishes_stand}
use Rattle.planus_write.proofs.laws.placed_sized_finishes_stand.Goals as goal

pub returns : goal.returns
returns c = sized_finishes_stand
