use Rattle.std.proofs.Common.{◌∙◌, ap, sym, Some}
use Rattle.planus_pack.proofs.Utf8.{said, unsaid}
use Rattle.planus_pack.proofs.defaults.text_said.Goals as goal

pub returns-in-Ok : goal.returns-in-Ok
returns-in-Ok c = ap Some c.in-Ok.ensures.cases.0 ∙ sym (said c.args.word.now c.in-Ok.ensures.cases.1)

pub returns-in-Err : goal.returns-in-Err
returns-in-Err c = sym (unsaid c.args.word.now c.in-Err.ensures.cases.0)
