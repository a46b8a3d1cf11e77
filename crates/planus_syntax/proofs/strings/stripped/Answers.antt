use Rattle.planus_syntax.proofs.Stripping.{strips}
use Rattle.planus_syntax.proofs.strings.stripped.Goals as goal

pub returns : goal.returns
returns c = strips c.args.front.now c.args.text.now c.strip_prefix.result c.strip_prefix.ensures.cases
