use Rattle.std.proofs.Common.{◌≡◌, ◌+◌, ◌++◌, [], length, replicate, refl, subst, arith, Ok, Err, None, length-append}
use Rattle.std.specs.Int.{w32, to_le_bytes}
use Rattle.std.proofs.lemmas.Result.{err_from_is_err_and}
use Rattle.planus_back.specs.CacheKeys.{bytes_in}
use Rattle.planus_write.specs.Parts.{byte_list_entry, byte_list_part}
use Rattle.planus_write.specs.Placing.{PlacesEntry, Refuses}
use Rattle.planus_write.specs.Shared.{byte_lists}
use Rattle.planus_write.specs.inner.Sharing.{Finds, FindsOrPlans, PlansShared}
use Rattle.planus_write.specs.View.{state_of}
use Rattle.planus_write.specs.declared.sharing.Lookup.TheVariants.{Planned}
use Rattle.planus_write.proofs.ContentsInFront.{list_in_front}
use Rattle.planus_write.specs.lemmas.KeptContents.{new_byte_lists}
use Rattle.planus_write.proofs.PlannedRoom.{makes_room}
use Rattle.planus_write.proofs.PlacedParts.{begun, not_begun, new_bytes, still_sound, left_sound}
use Rattle.planus_write.proofs.builder.Builder.put_list.Given as given
use Rattle.planus_write.proofs.builder.Builder.put_list.Goals as goal

pub plan_if-requires-clause-power : goal.plan_if-requires-clause-power
plan_if-requires-clause-power g c = (2, refl)

pub plan_if-requires-clause-fits : goal.plan_if-requires-clause-fits
plan_if-requires-clause-fits g c = (c.self.invariant.1.cached byte_lists).fits

pub plan_if-requires-clause-bucket : goal.plan_if-requires-clause-bucket
plan_if-requires-clause-bucket g c = rw (← c.self.view_is) at c.requires.bucket

put : (g : given.Over) → (c : goal.After-put_planned_over g)
    → PlacesEntry (byte_list_entry (g.B.Byte.bytes_of c.args.list.now)) [] (state_of c.self.inside) c.in_ok-plan.plan.place (state_of (record c.self.inside { backing = c.put_planned_over.new.self; byte_lists = c.plan_if.new.sharing }))
put g c =
    let list = g.B.Byte.bytes_of c.args.list.now in
    let plan = c.in_ok-plan.plan in
    let old = c.self.inside.backing in
    let mid = c.plan_if.new.backing in
    let number = c.count-size.ensures.number in
    let whole = to_le_bytes w32 (length list) ++ list in
    let new : Finds bytes_in c.self.inside.byte_lists old.bytes list None = rw (← c.requires.on, ← c.self.view_is) at c.requires.new in
    let planned : PlansShared bytes_in list (length list + 4) 4 old c.self.inside.byte_lists (Ok plan) mid c.plan_if.new.sharing =
    subst (λ n. PlansShared bytes_in list (n + 4) 4 old c.self.inside.byte_lists (Ok plan) mid c.plan_if.new.sharing) number c.in_ok-plan.ensures in
    let started : FindsOrPlans bytes_in list (length list + 4) 4 old c.self.inside.byte_lists (Ok (Planned plan)) mid c.plan_if.new.sharing = (new, planned) in
    let there = c.put_planned_over.ensures.put in
    let room = makes_room (length list + 4) 4 old mid there.0 plan started.1.0 started.1.1 there.1 in
    let long : length whole ≡ length list + 4 = simp length-append (omega arith) in
    let fits = started.1.0.fits in
    let place = started.1.0.is_place in
    begun list (byte_list_part list) c.self.inside mid c.plan_if.new.sharing byte_lists plan there.0 c.put_planned_over.new.self whole started there.1 refl long there.2
    (list_in_front list (to_le_bytes w32 (length list)) (replicate room.padding 0) old.bytes c.put_planned_over.new.self.bytes (omega (arith, fits, place)) refl
    (new_bytes (length list + 4) 4 plan.place old there.0 c.put_planned_over.new.self whole room long there.2))
    (new_byte_lists list)

pub invariant_of-self-2 : goal.invariant_of-self-2
invariant_of-self-2 g c = still_sound (byte_list_entry (g.B.Byte.bytes_of c.args.list.now)) [] (state_of c.self.inside) _ c.in_ok-plan.plan.place c.self.invariant (put g c)

pub returns : goal.returns
returns g c = rw (← c.self.view_is) (put g c)

refused : (g : given.Over) → (c : goal.After-from_residual g)
    → Refuses (byte_list_entry (g.B.Byte.bytes_of c.args.list.now)) [] (state_of c.self.inside) c.in_err-plan.field-0.0 (state_of (record c.self.inside { backing = c.plan_if.new.backing; byte_lists = c.plan_if.new.sharing }))
refused g c =
    let list = g.B.Byte.bytes_of c.args.list.now in
    let new : Finds bytes_in c.self.inside.byte_lists c.self.inside.backing.bytes list None = rw (← c.requires.on, ← c.self.view_is) at c.requires.new in
    let lacks : PlansShared bytes_in list (length list + 4) 4 c.self.inside.backing c.self.inside.byte_lists (Err c.in_err-plan.field-0.0) c.plan_if.new.backing c.plan_if.new.sharing =
    subst (λ n. PlansShared bytes_in list (n + 4) 4 c.self.inside.backing c.self.inside.byte_lists (Err c.in_err-plan.field-0.0) c.plan_if.new.backing c.plan_if.new.sharing) c.count-size.ensures.number c.in_err-plan.ensures in
    not_begun list (byte_list_part list) c.self.inside c.plan_if.new.backing c.plan_if.new.sharing byte_lists c.in_err-plan.field-0.0 (new, lacks)

pub invariant_of-self : goal.invariant_of-self
invariant_of-self g c = left_sound (byte_list_entry (g.B.Byte.bytes_of c.args.list.now)) [] (state_of c.self.inside) _ c.in_err-plan.field-0.0 c.self.invariant (refused g c)

pub returns-in_err-plan : goal.returns-in_err-plan
returns-in_err-plan g c =
    let p = err_from_is_err_and c.from_residual.result c.from_residual.ensures.1 in
    rw (p.1, p.2, ← c.self.view_is) (refused g c)
