use Rattle.planus_foreign.proofs.laws.strings_lie_inside.Goals as goal
use Rattle.planus_foreign.proofs.Inside.{string_fields, strings_there}

pub returns : goal.returns
returns c = record { fields = string_fields; there = strings_there }
