use Rattle.std.proofs.Common.{[], refl, subst}
use Rattle.std.proofs.lemmas.Result.{err_from_is_err_and}
use Rattle.planus_write.specs.History.{unshared_entry}
use Rattle.planus_write.specs.Parts.{count_part}
use Rattle.planus_write.specs.inner.Backed.{PutsBytes}
use Rattle.planus_write.specs.Placing.{PlacesEntry, Refuses}
use Rattle.planus_write.specs.View.{state_of}
use Rattle.planus_write.proofs.PlacedParts.{part_put, unshared_refused, still_sound, left_sound}
use Rattle.planus_write.proofs.builder.Builder.write_count.Goals as goal

put : (c : goal.After-put) → PlacesEntry (unshared_entry (count_part c.args.count)) [] (state_of c.self.inside) c.in_ok-place.place (state_of (record c.self.inside { backing = c.put.new.self }))
put c =
    part_put (count_part c.args.count) c.in_ok-place.place c.self.inside.backing c.make_room.new.self c.put.new.self _ _ c.in_ok-place.ensures
    refl (subst (λ bytes. PutsBytes bytes c.make_room.new.self c.put.new.self) c.to_le_bytes.ensures c.put.ensures)

pub invariant_of-self-2 : goal.invariant_of-self-2
invariant_of-self-2 c = still_sound (unshared_entry (count_part c.args.count)) [] (state_of c.self.inside) _ c.in_ok-place.place c.self.invariant (put c)

pub returns : goal.returns
returns c = rw (← c.self.view_is) (put c)

refused : (c : goal.After-from_residual) → Refuses (unshared_entry (count_part c.args.count)) [] (state_of c.self.inside) c.in_err-place.field-0.0 (state_of (record c.self.inside { backing = c.make_room.new.self }))
refused c = unshared_refused (count_part c.args.count) c.self.inside.backing _ _ c.in_err-place.field-0.0 c.make_room.new.self c.in_err-place.ensures.0 c.in_err-place.ensures.1

pub invariant_of-self : goal.invariant_of-self
invariant_of-self c = left_sound (unshared_entry (count_part c.args.count)) [] (state_of c.self.inside) _ c.in_err-place.field-0.0 c.self.invariant (refused c)

pub returns-in_err-place : goal.returns-in_err-place
returns-in_err-place c =
    let p = err_from_is_err_and c.from_residual.result c.from_residual.ensures.1 in
    rw (p.1, p.2, ← c.self.view_is) (refused c)
