use Rattle.planus_cli.proofs.SpelledFiles.{spelled_all}
use Rattle.planus_cli.proofs.told.told.Goals as goal

pub all_told-requires-clause-old : goal.all_told-requires-clause-old
all_told-requires-clause-old c = spelled_all c.args.old.now.files.items c.args.old.now.declarations.items c.requires.old

pub all_told-requires-clause-new : goal.all_told-requires-clause-new
all_told-requires-clause-new c = spelled_all c.args.new.now.files.items c.args.new.now.declarations.items c.requires.new
