use Rattle.std.proofs.Common.{ℕ, List, drop}
use Rattle.std.specs.Prelude.{Option}
use Rattle.planus_cli.specs.Printing.{PrintsAll}
use Rattle.planus_cli.proofs.rattle.print_files.Given as goal

abbrev pub invariant-printed : goal.invariant-printed
invariant-printed g l = (status : ℕ) (said : Option (List ℕ))
    → PrintsAll (g.F.Files.disk l.files) l.folder.path.now l.folder.check (drop l.file-index l.printed) l.worst status (g.X.Write.contents l.errors) said
    → PrintsAll (g.F.Files.disk l.files) l.folder.path.now l.folder.check l.printed 0 status (g.X.Write.contents l.initial.errors) said
