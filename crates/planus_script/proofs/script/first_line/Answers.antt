use Rattle.std.proofs.Common.{None}
use Rattle.planus_script.proofs.Splitting.{parts_at_position, parts_at_some}
use Rattle.planus_script.proofs.script.first_line.Goals as goal

pub returns-in-None-clause-lines : goal.returns-in-None-clause-lines
returns-in-None-clause-lines c = parts_at_position _ c.args.text.now None c.in-None.ensures

pub returns-in-Some-clause-lines : goal.returns-in-Some-clause-lines
returns-in-Some-clause-lines c = parts_at_some _ c.args.text.now c.in-Some.end c.in-Some.ensures
