use Rattle.std.proofs.Common.{◌+◌, refl}
use Rattle.std.proofs.lemmas.Result.{err_from_is_err_and}
use Rattle.planus_write.proofs.PlannedRoom.{lacks_memory, is_too_large}
use Rattle.planus_write.proofs.backing.Backing.plan_room.Goals as goal

pub returns-in_err-plan : goal.returns-in_err-plan
returns-in_err-plan c =
    let p = err_from_is_err_and c.from_residual.result c.from_residual.ensures.1 in
    rw (p.1, p.2) (refl, is_too_large c.in_err-plan.field-0.0 c.args.size (c.args.mask + 1) c.args.self.now c.in_err-plan.ensures.0 c.in_err-plan.ensures.1)

pub returns-in_err-reserve : goal.returns-in_err-reserve
returns-in_err-reserve c =
    let p = err_from_is_err_and c.from_residual-in_err-reserve.result c.from_residual-in_err-reserve.ensures.1 in
    let refused = c.in_err-reserve.ensures in
    rw (p.1, p.2)
    (refused.1, lacks_memory c.in_err-reserve.field-0.0 c.args.size (c.args.mask + 1) c.args.self.now c.in_ok-plan.plan refused.0 c.in_ok-plan.ensures refused.2)
