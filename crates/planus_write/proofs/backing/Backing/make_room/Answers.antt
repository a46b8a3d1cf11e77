use Rattle.planus_write.proofs.PlannedRoom.{makes_room}
use Rattle.planus_write.proofs.backing.Backing.make_room.Goals as goal

pub returns : goal.returns
returns c = makes_room c.args.size _ c.args.self.now c.plan_room.new.self c.pad.new.self c.in_ok-plan.plan c.in_ok-plan.ensures.0 c.in_ok-plan.ensures.1 c.pad.ensures
