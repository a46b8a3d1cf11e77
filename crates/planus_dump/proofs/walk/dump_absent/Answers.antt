use Rattle.std.proofs.Common.{ap, ◌∙◌}
use Rattle.planus_dump.specs.Events.{absent_events}
use Rattle.planus_dump.proofs.Fed.{fed_none}
use Rattle.planus_dump.proofs.walk.dump_absent.Goals as goal

pub returns-else-required : goal.returns-else-required
returns-else-required g c = λ es same.
    fed_none g.L.Lines.takes g.L.Lines.breaks c.args.out.now es (same ∙ ap (λ required. absent_events required c.args.path.now) c.if-required.false)
