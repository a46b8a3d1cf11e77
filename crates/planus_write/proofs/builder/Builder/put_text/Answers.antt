use Rattle.std.proofs.Common.{◌≡◌, ◌+◌, ◌++◌, [], ◌∷◌, length, replicate, refl, arith, Ok, Err, None, length-append}
use Rattle.std.proofs.lemmas.Result.{err_from_is_err_and}
use Rattle.planus_back.specs.CacheKeys.{bytes_in}
use Rattle.planus_write.specs.Parts.{text_entry, text_part}
use Rattle.planus_write.specs.Placing.{PlacesEntry, Refuses}
use Rattle.planus_write.specs.Shared.{texts}
use Rattle.planus_write.specs.inner.Sharing.{Finds, FindsOrPlans}
use Rattle.planus_write.specs.View.{state_of}
use Rattle.planus_write.specs.declared.sharing.Lookup.TheVariants.{Planned}
use Rattle.std.specs.Int.{w32, to_le_bytes}
use Rattle.planus_write.proofs.ContentsInFront.{text_in_front}
use Rattle.planus_write.specs.lemmas.KeptContents.{new_texts}
use Rattle.planus_write.proofs.PlannedRoom.{makes_room}
use Rattle.planus_write.proofs.PlacedParts.{begun, not_begun, new_bytes, still_sound, left_sound}
use Rattle.planus_write.proofs.builder.Builder.put_text.Goals as goal

pub plan_if-requires-clause-power : goal.plan_if-requires-clause-power
plan_if-requires-clause-power c = (2, refl)

pub plan_if-requires-clause-fits : goal.plan_if-requires-clause-fits
plan_if-requires-clause-fits c = (c.self.invariant.1.cached texts).fits

pub plan_if-requires-clause-bucket : goal.plan_if-requires-clause-bucket
plan_if-requires-clause-bucket c = rw c.as_bytes-bytes.ensures.value (rw (← c.self.view_is) at c.requires.bucket)

put : (c : goal.After-put_planned_over) → PlacesEntry (text_entry c.as_bytes-bytes.result.now) [] (state_of c.self.inside) c.in_ok-plan.plan.place (state_of (record c.self.inside { backing = c.put_planned_over.new.self; texts = c.plan_if.new.sharing }))
put c =
    let text = c.as_bytes-bytes.result.now in
    let plan = c.in_ok-plan.plan in
    let old = c.self.inside.backing in
    let whole = (to_le_bytes w32 (length text) ++ text) ++ 0 ∷ [] in
    let new : Finds bytes_in c.self.inside.texts old.bytes text None = rw c.as_bytes-bytes.ensures.value (rw (← c.requires.on, ← c.self.view_is) at c.requires.new) in
    let started : FindsOrPlans bytes_in text (length text + 5) 4 old c.self.inside.texts (Ok (Planned plan)) c.plan_if.new.backing c.plan_if.new.sharing = (new, c.in_ok-plan.ensures) in
    let there = c.put_planned_over.ensures.put in
    let room = makes_room (length text + 5) 4 old c.plan_if.new.backing there.0 plan started.1.0 started.1.1 there.1 in
    let long : length whole ≡ length text + 5 = simp length-append (omega arith) in
    let fits = started.1.0.fits in
    let place = started.1.0.is_place in
    begun text (text_part text) c.self.inside c.plan_if.new.backing c.plan_if.new.sharing texts plan there.0 c.put_planned_over.new.self whole started there.1 refl long there.2
    (text_in_front text (to_le_bytes w32 (length text)) (replicate room.padding 0) old.bytes c.put_planned_over.new.self.bytes (omega (arith, fits, place)) refl
    (new_bytes (length text + 5) 4 plan.place old there.0 c.put_planned_over.new.self whole room long there.2))
    (new_texts text)

pub invariant_of-self-2 : goal.invariant_of-self-2
invariant_of-self-2 c = still_sound (text_entry c.as_bytes-bytes.result.now) [] (state_of c.self.inside) _ c.in_ok-plan.plan.place c.self.invariant (put c)

pub returns : goal.returns
returns c = rw (← c.self.view_is, ← c.as_bytes-bytes.ensures.value) (put c)

refused : (c : goal.After-from_residual) → Refuses (text_entry c.as_bytes-bytes.result.now) [] (state_of c.self.inside) c.in_err-plan.field-0.0 (state_of (record c.self.inside { backing = c.plan_if.new.backing; texts = c.plan_if.new.sharing }))
refused c =
    let text = c.as_bytes-bytes.result.now in
    let new : Finds bytes_in c.self.inside.texts c.self.inside.backing.bytes text None = rw c.as_bytes-bytes.ensures.value (rw (← c.requires.on, ← c.self.view_is) at c.requires.new) in
    not_begun text (text_part text) c.self.inside c.plan_if.new.backing c.plan_if.new.sharing texts c.in_err-plan.field-0.0 (new, c.in_err-plan.ensures)

pub invariant_of-self : goal.invariant_of-self
invariant_of-self c = left_sound (text_entry c.as_bytes-bytes.result.now) [] (state_of c.self.inside) _ c.in_err-plan.field-0.0 c.self.invariant (refused c)

pub returns-in_err-plan : goal.returns-in_err-plan
returns-in_err-plan c =
    let p = err_from_is_err_and c.from_residual.result c.from_residual.ensures.1 in
    rw (p.1, p.2, ← c.self.view_is, ← c.as_bytes-bytes.ensures.value) (refused c)
