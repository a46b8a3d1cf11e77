use Rattle.std.proofs.Common.{map, take, subst, sym}
use Rattle.std.proofs.lemmas.List.{take_more}
use Rattle.planus_resolve.specs.Names.{head_of}
use Rattle.planus_cli.specs.Checks.{AreReports}
use Rattle.planus_cli.proofs.Reported.{reports_push}
use Rattle.planus_cli.proofs.check.reports.Goals as goal

pub faults-preserved : goal.faults-preserved
faults-preserved c =
    subst (λ some. AreReports (map head_of c.args.heads.now) c.args.files.now some c.put_report.new.out.items)
    (sym (take_more c.args.faults.now c.faults.fault-index _ c.faults-test.true))
    (reports_push (map head_of c.args.heads.now) c.args.files.now (take c.faults.fault-index c.args.faults.now) _ c.faults.out.items
    c.put_report.new.out.items c.faults.invariant c.in_ok-put_report.ensures)
