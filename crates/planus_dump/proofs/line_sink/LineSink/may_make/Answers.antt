use Rattle.std.proofs.Common.{◌∷◌, [], arith}
use Rattle.planus_dump.specs.declared.end.End.TheVariants.{TooManyLines, TooManyBytes}
use Rattle.planus_dump.proofs.Fed.{fed_as, fed_stopped, fed_many, fed_long}
use Rattle.planus_dump.proofs.line_sink.LineSink.may_make.Goals as goal

pub returns-then-is_stopped : goal.returns-then-is_stopped
returns-then-is_stopped g c = λ e h most es same.
    let takes = g.L.Lines.takes in let breaks = g.L.Lines.breaks in let out = c.args.self.now in
    fed_as takes breaks out out (e ∷ []) es _ (fed_stopped takes breaks out (e ∷ []) c.if-is_stopped.ensures) same

pub returns-then-self-eq0 : goal.returns-then-self-eq0
returns-then-self-eq0 g c = λ e h most es same.
    let takes = g.L.Lines.takes in let breaks = g.L.Lines.breaks in let out = c.args.self.now in
    fed_as takes breaks out (record out { end = TooManyLines }) (e ∷ []) es _
    (fed_many takes breaks out e c.if-is_stopped.ensures c.if-self-eq0.true h) same

pub returns-in-Some : goal.returns-in-Some
returns-in-Some g c = λ e h most es same.
    let takes = g.L.Lines.takes in let breaks = g.L.Lines.breaks in let out = c.args.self.now in
    fed_as takes breaks out (record out { end = TooManyBytes }) (e ∷ []) es _
    (fed_long takes breaks out e c.in-Some.room c.args.size c.if-is_stopped.ensures (omega arith) c.in-Some.is c.if-room-size.true h most) same
