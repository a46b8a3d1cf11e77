use Rattle.planus_back.proofs.Places.{least_places}
use Rattle.planus_back.proofs.laws.least_padding_gives_the_least_places.Goals as goal

pub returns : goal.returns
returns c = λ parts places others all placed placing. least_places parts places others placing.kept.0 all placed placing.in_order placing.kept.1
