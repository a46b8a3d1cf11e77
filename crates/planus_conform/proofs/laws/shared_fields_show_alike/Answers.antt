use Rattle.planus_conform.proofs.ShownAlike.{shared_fields_show_alike}
use Rattle.planus_conform.proofs.laws.shared_fields_show_alike.Goals as goal

pub returns : goal.returns
returns c = shared_fields_show_alike
