use Rattle.std.proofs.Common.{◌≡◌, ◌++◌, [], length, replicate, refl, ap, subst, ◌∙◌, Ok, Some, append_assoc}
use Rattle.std.proofs.lemmas.Result.{err_from_is_err_and}
use Rattle.planus_back.specs.CacheKeys.{vtable_in}
use Rattle.planus_write.specs.Tables.{vtable_entry, vtable_part}
use Rattle.planus_write.specs.Placing.{PlacesEntry, Refuses}
use Rattle.planus_write.specs.Shared.{vtables}
use Rattle.planus_write.specs.inner.Sharing.{FindsOrPlans}
use Rattle.planus_write.specs.View.{state_of}
use Rattle.planus_write.specs.declared.sharing.Lookup.{Lookup}
use Rattle.planus_write.specs.declared.sharing.Lookup.TheVariants.{Found, Planned}
use Rattle.planus_write.proofs.ContentsInFront.{vtable_in_front}
use Rattle.planus_write.specs.lemmas.KeptTables.{new_vtables}
use Rattle.planus_write.proofs.PlannedRoom.{makes_room}
use Rattle.planus_write.proofs.PlacedParts.{begun, found_again, not_begun, new_bytes, still_sound, left_sound}
use Rattle.planus_write.proofs.builder.Builder.write_vtable_once.Goals as goal

pub find_or_plan-requires-clause-fits : goal.find_or_plan-requires-clause-fits
find_or_plan-requires-clause-fits c = (c.self.invariant.1.cached vtables).fits

put : (c : goal.After-put_planned_over) → PlacesEntry (vtable_entry c.args.bytes.now) [] (state_of c.self.inside) c.in-Planned.plan.place (state_of (record c.self.inside { backing = c.put_planned_over.new.self; vtables = c.find_or_plan.new.sharing }))
put c =
    let bytes = c.args.bytes.now in
    let plan = c.in-Planned.plan in
    let old = c.self.inside.backing in
    let started : FindsOrPlans vtable_in bytes (length bytes) 2 old c.self.inside.vtables (Ok (Planned plan)) c.find_or_plan.new.backing c.find_or_plan.new.sharing =
    subst (λ (start : Lookup). FindsOrPlans vtable_in bytes (length bytes) 2 old c.self.inside.vtables (Ok start) c.find_or_plan.new.backing c.find_or_plan.new.sharing) c.in-Planned.is c.in_ok-distance.ensures in
    let there = c.put_planned_over.ensures.put in
    let room = makes_room (length bytes) 2 old c.find_or_plan.new.backing there.0 plan started.1.0 started.1.1 there.1 in
    let front : c.put_planned_over.new.self.bytes ≡ bytes ++ (replicate room.padding 0 ++ old.bytes) =
    new_bytes (length bytes) 2 plan.place old there.0 c.put_planned_over.new.self bytes room refl there.2 ∙ append_assoc bytes (replicate room.padding 0) old.bytes in
    let in_front : vtable_in c.put_planned_over.new.self.bytes ≡ Some bytes = ap vtable_in front ∙ vtable_in_front bytes (replicate room.padding 0 ++ old.bytes) bytes c.requires in
    begun bytes (vtable_part bytes) c.self.inside c.find_or_plan.new.backing c.find_or_plan.new.sharing vtables plan there.0 c.put_planned_over.new.self bytes started there.1 refl refl there.2 in_front (new_vtables bytes)

pub invariant_of-self-in-Planned : goal.invariant_of-self-in-Planned
invariant_of-self-in-Planned c = still_sound (vtable_entry c.args.bytes.now) [] (state_of c.self.inside) _ c.in-Planned.plan.place c.self.invariant (put c)

pub returns-in-Planned : goal.returns-in-Planned
returns-in-Planned c = rw (← c.self.view_is) (put c)

pub returns-in-Found : goal.returns-in-Found
returns-in-Found c =
    let bytes = c.args.bytes.now in
    let started : FindsOrPlans vtable_in bytes (length bytes) 2 c.self.inside.backing c.self.inside.vtables (Ok (Found c.in-Found.distance)) c.find_or_plan.new.backing c.find_or_plan.new.sharing =
    subst (λ (start : Lookup). FindsOrPlans vtable_in bytes (length bytes) 2 c.self.inside.backing c.self.inside.vtables (Ok start) c.find_or_plan.new.backing c.find_or_plan.new.sharing) c.in-Found.is c.in_ok-distance.ensures in
    rw (← c.self.view_is) (found_again bytes (vtable_part bytes) c.self.inside c.find_or_plan.new.backing c.find_or_plan.new.sharing vtables c.in-Found.distance started)

refused : (c : goal.After-from_residual) → Refuses (vtable_entry c.args.bytes.now) [] (state_of c.self.inside) c.in_err-distance.field-0.0 (state_of (record c.self.inside { backing = c.find_or_plan.new.backing; vtables = c.find_or_plan.new.sharing }))
refused c = not_begun c.args.bytes.now (vtable_part c.args.bytes.now) c.self.inside c.find_or_plan.new.backing c.find_or_plan.new.sharing vtables c.in_err-distance.field-0.0 c.in_err-distance.ensures

pub invariant_of-self : goal.invariant_of-self
invariant_of-self c = left_sound (vtable_entry c.args.bytes.now) [] (state_of c.self.inside) _ c.in_err-distance.field-0.0 c.self.invariant (refused c)

pub returns-in_err-distance : goal.returns-in_err-distance
returns-in_err-distance c =
    let p = err_from_is_err_and c.from_residual.result c.from_residual.ensures.1 in
    rw (p.1, p.2, ← c.self.view_is) (refused c)
