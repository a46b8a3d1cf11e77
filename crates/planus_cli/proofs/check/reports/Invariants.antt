use Rattle.std.proofs.Common.{map, take}
use Rattle.planus_resolve.specs.Names.{head_of}
use Rattle.planus_cli.specs.Checks.{AreReports}
use Rattle.planus_cli.proofs.check.reports.Given as goal

abbrev pub invariant-faults : goal.invariant-faults
invariant-faults l = AreReports (map head_of l.heads) l.files (take l.fault-index l.faults) l.out.items
