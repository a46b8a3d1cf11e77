use Rattle.planus_script.proofs.OneText.{printed_is_one}
use Rattle.planus_script.proofs.laws.printed_is_one.Goals as goal

pub returns : goal.returns
returns c = printed_is_one
