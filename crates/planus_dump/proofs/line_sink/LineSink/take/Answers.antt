use Rattle.std.proofs.Common.{◌-◌, ◌∷◌, [], ap, sym, subst, ◌∙◌}
use Rattle.planus_dump.specs.inner.Shown.{event_of}
use Rattle.planus_dump.specs.inner.Feeding.{Fed, left_in}
use Rattle.planus_dump.proofs.Fed.{fed_as, fed_taken, line_event}
use Rattle.planus_dump.proofs.line_sink.LineSink.take.Goals as goal

pub returns : goal.returns
returns g c = λ es same.
    let takes = g.L.Lines.takes in let breaks = g.L.Lines.breaks in let out = c.args.self.now in let e = event_of c.args.line in
    let room = c.room_after-self.ensures ∙ ap (left_in out.room) c.size.ensures in
    fed_as takes breaks out _ (e ∷ []) es c.put.result
    (subst (λ room. Fed takes breaks out (e ∷ []) c.put.result (record out { lines = c.put.new.self; left = out.left - 1; room = room })) (sym room)
    (fed_taken takes breaks out e c.put.result c.put.new.self c.requires (line_event c.args.line) c.put.ensures)) same
