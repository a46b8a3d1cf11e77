use Rattle.planus_write.proofs.InBuilder.{stays_in, all_stay_in, all_unions_stay_in}
use Rattle.planus_write.proofs.laws.what_is_in_stays_in.Goals as goal

pub returns-clause-one : goal.returns-clause-one
returns-clause-one g c = stays_in

pub returns-clause-all : goal.returns-clause-all
returns-clause-all g c = all_stay_in

pub returns-clause-unions : goal.returns-clause-unions
returns-clause-unions g c = all_unions_stay_in
