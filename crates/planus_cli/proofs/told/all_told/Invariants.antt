use Rattle.std.proofs.Common.{take}
use Rattle.planus_cli.specs.Telling.{TellsBreaks}
use Rattle.planus_cli.proofs.told.all_told.Given as goal

abbrev pub invariant-breaks : goal.invariant-breaks
invariant-breaks l = TellsBreaks l.json l.renames l.old l.new (take l.one-index l.breaks) l.out.items
