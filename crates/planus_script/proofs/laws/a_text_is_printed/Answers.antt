use Rattle.planus_script.proofs.SomeText.{a_text_is_printed}
use Rattle.planus_script.proofs.laws.a_text_is_printed.Goals as goal

pub returns : goal.returns
returns c = a_text_is_printed
