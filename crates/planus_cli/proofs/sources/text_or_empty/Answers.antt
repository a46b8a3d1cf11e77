use Rattle.planus_cli.proofs.LoadedFiles.{text_is, no_text_is}
use Rattle.planus_cli.proofs.sources.text_or_empty.Goals as goal

pub returns-in-Ok : goal.returns-in-Ok
returns-in-Ok c = text_is c.in-Ok.text.now c.args.bytes.now c.in-Ok.ensures.cases.0 c.in-Ok.ensures.cases.1

pub returns-in-Err : goal.returns-in-Err
returns-in-Err c = no_text_is c.args.bytes.now c.in-Err.ensures.cases.0
