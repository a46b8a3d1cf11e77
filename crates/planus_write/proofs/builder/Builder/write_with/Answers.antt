use Rattle.std.proofs.Common.{[], ◌+◌, length}
use Rattle.std.proofs.lemmas.Result.{err_from_is_err_and}
use Rattle.planus_back.specs.Parts.{Part}
use Rattle.planus_write.specs.History.{unshared_entry}
use Rattle.planus_write.specs.Parts.{filled_part}
use Rattle.planus_write.specs.Placing.{PlacesEntry, Refuses}
use Rattle.planus_write.specs.View.{state_of}
use Rattle.planus_write.proofs.PlacedParts.{part_put_last, unshared_refused, still_sound, left_sound}
use Rattle.planus_write.proofs.PlannedRoom.{makes_room}
use Rattle.planus_write.proofs.builder.Builder.write_with.Given as given
use Rattle.planus_write.proofs.builder.Builder.write_with.Goals as goal

abbrev part : (g : given.Over) → goal.After-put_planned_over g → Part
part g c = filled_part c.args.size (c.args.alignment_mask + 1) (g.F.Fill.encoding c.args.filler.now)

put : (g : given.Over) → (c : goal.After-put_planned_over g)
    → PlacesEntry (unshared_entry (part g c)) [] (state_of c.self.inside) (length c.put_planned_over.new.self.bytes) (state_of (record c.self.inside { backing = c.put_planned_over.new.self }))
put g c =
    let there = c.put_planned_over.ensures.put in
    part_put_last (part g c) c.in_ok-plan.plan.place c.self.inside.backing there.0 c.put_planned_over.new.self _ _
    (makes_room c.args.size (c.args.alignment_mask + 1) c.self.inside.backing c.plan_room.new.self there.0 c.in_ok-plan.plan c.in_ok-plan.ensures.0 c.in_ok-plan.ensures.1 there.1)
    c.put_planned_over.ensures.count there.2

pub invariant_of-self-2 : goal.invariant_of-self-2
invariant_of-self-2 g c = still_sound (unshared_entry (part g c)) [] (state_of c.self.inside) _ (length c.put_planned_over.new.self.bytes) c.self.invariant (put g c)

pub returns : goal.returns
returns g c = rw (← c.self.view_is) (put g c)

abbrev refused_part : (g : given.Over) → goal.After-from_residual g → Part
refused_part g c = filled_part c.args.size (c.args.alignment_mask + 1) (g.F.Fill.encoding c.args.filler.now)

refused : (g : given.Over) → (c : goal.After-from_residual g) → Refuses (unshared_entry (refused_part g c)) [] (state_of c.self.inside) c.in_err-plan.field-0.0 (state_of (record c.self.inside { backing = c.plan_room.new.self }))
refused g c = unshared_refused (refused_part g c) c.self.inside.backing _ _ c.in_err-plan.field-0.0 c.plan_room.new.self c.in_err-plan.ensures.0 c.in_err-plan.ensures.1

pub invariant_of-self : goal.invariant_of-self
invariant_of-self g c = left_sound (unshared_entry (refused_part g c)) [] (state_of c.self.inside) _ c.in_err-plan.field-0.0 c.self.invariant (refused g c)

pub returns-in_err-plan : goal.returns-in_err-plan
returns-in_err-plan g c =
    let p = err_from_is_err_and c.from_residual.result c.from_residual.ensures.1 in
    rw (p.1, p.2, ← c.self.view_is) (refused g c)
