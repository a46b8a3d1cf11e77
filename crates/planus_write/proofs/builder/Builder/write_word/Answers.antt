use Rattle.std.proofs.Common.{[], refl, sym, subst}
use Rattle.std.proofs.lemmas.Result.{err_from_is_err_and}
use Rattle.planus_write.specs.History.{unshared_entry}
use Rattle.planus_write.specs.Tables.{word_part}
use Rattle.planus_write.specs.inner.Backed.{PutsBytes}
use Rattle.planus_write.specs.Placing.{PlacesEntry, Refuses}
use Rattle.planus_write.specs.View.{state_of}
use Rattle.planus_write.proofs.PlacedParts.{part_put, part_ends, unshared_refused, still_sound, left_sound}
use Rattle.planus_write.proofs.builder.Builder.write_word.Goals as goal

put : (c : goal.After-put) → PlacesEntry (unshared_entry (word_part c.args.vtable)) [] (state_of c.self.inside) c.in_ok-place.place (state_of (record c.self.inside { backing = c.put.new.self }))
put c =
    part_put (word_part c.args.vtable) c.in_ok-place.place c.self.inside.backing c.make_room.new.self c.put.new.self _ _ c.in_ok-place.ensures
    refl (subst (λ bytes. PutsBytes bytes c.make_room.new.self c.put.new.self) c.word_between.ensures c.put.ensures)

pub invariant_of-self-2 : goal.invariant_of-self-2
invariant_of-self-2 c = still_sound (unshared_entry (word_part c.args.vtable)) [] (state_of c.self.inside) _ c.in_ok-place.place c.self.invariant (put c)

pub returns-clause-entry : goal.returns-clause-entry
returns-clause-entry c = rw (← c.self.view_is) (put c)

pub returns-clause-last : goal.returns-clause-last
returns-clause-last c =
    sym (part_ends (word_part c.args.vtable) c.in_ok-place.place c.self.inside.backing c.make_room.new.self c.put.new.self (state_of c.self.inside).settings (state_of c.self.inside).holdings c.in_ok-place.ensures
    refl (subst (λ bytes. PutsBytes bytes c.make_room.new.self c.put.new.self) c.word_between.ensures c.put.ensures))

refused : (c : goal.After-from_residual) → Refuses (unshared_entry (word_part c.args.vtable)) [] (state_of c.self.inside) c.in_err-place.field-0.0 (state_of (record c.self.inside { backing = c.make_room.new.self }))
refused c = unshared_refused (word_part c.args.vtable) c.self.inside.backing _ _ c.in_err-place.field-0.0 c.make_room.new.self c.in_err-place.ensures.0 c.in_err-place.ensures.1

pub invariant_of-self : goal.invariant_of-self
invariant_of-self c = left_sound (unshared_entry (word_part c.args.vtable)) [] (state_of c.self.inside) _ c.in_err-place.field-0.0 c.self.invariant (refused c)

pub returns-in_err-place-clause-entry : goal.returns-in_err-place-clause-entry
returns-in_err-place-clause-entry c =
    let p = err_from_is_err_and c.from_residual.result c.from_residual.ensures.1 in
    rw (p.1, p.2, ← c.self.view_is) (refused c)
