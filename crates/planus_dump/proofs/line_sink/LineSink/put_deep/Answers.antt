use Rattle.std.proofs.Common.{◌∷◌, [], Ok}
use Rattle.planus_dump.specs.Events.{deep}
use Rattle.planus_dump.proofs.Fed.{fed_as, fed_deep, fed_stopped}
use Rattle.planus_dump.proofs.line_sink.LineSink.put_deep.Goals as goal

pub returns-in-Whole : goal.returns-in-Whole
returns-in-Whole g c = λ es same.
    let takes = g.L.Lines.takes in let breaks = g.L.Lines.breaks in let out = c.args.self.now in
    fed_as takes breaks out _ (deep ∷ []) es (Ok (tt {0})) (fed_deep takes breaks out c.in-Whole.is) same

pub returns-in_default : goal.returns-in_default
returns-in_default g c = λ es same.
    let takes = g.L.Lines.takes in let breaks = g.L.Lines.breaks in let out = c.args.self.now in
    fed_as takes breaks out out (deep ∷ []) es (Ok (tt {0})) (fed_stopped takes breaks out (deep ∷ []) c.in_default.not-Whole) same
