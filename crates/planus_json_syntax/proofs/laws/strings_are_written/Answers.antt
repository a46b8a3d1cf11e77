use Rattle.planus_json_syntax.proofs.WrittenStrings.{strings_written}
use Rattle.planus_json_syntax.proofs.laws.strings_are_written.Goals as goal

pub returns : goal.returns
returns c = strings_written
