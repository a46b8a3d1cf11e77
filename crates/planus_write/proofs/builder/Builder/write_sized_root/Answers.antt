use Rattle.std.proofs.Common.{◌≡◌, ◌+◌, ◌-◌, [], ◌++◌, length, Some, ap, ◌∙◌, subst, arith}
use Rattle.std.proofs.lemmas.Result.{err_from_is_err_and}
use Rattle.std.specs.Int.{w32, to_le_bytes}
use Rattle.planus_write.specs.Parts.{identifier_bytes, sized_words, sized_finish_entry}
use Rattle.planus_write.specs.inner.Backed.{MakesRoom, PutsBytes, LacksRoom}
use Rattle.planus_write.specs.Finishing.{PutsInFront}
use Rattle.planus_write.specs.Placing.{Refuses}
use Rattle.planus_write.specs.View.{state_of}
use Rattle.planus_write.specs.lemmas.PartBytes.{front_number}
use Rattle.planus_write.proofs.PlacedParts.{front_refused, sized_finishes, still_sound, left_sound}
use Rattle.planus_write.proofs.builder.Builder.write_sized_root.Goals as goal

finish : (c : goal.After-put_three) → PutsInFront (sized_finish_entry c.args.root c.args.identifier) (state_of c.self.inside) c.in_ok-place.place (state_of (record c.self.inside { backing = c.put_three.new.self }))
finish c =
    let name = c.identifier_slice-name.ensures.bytes in
    let old = c.self.inside.backing in
    let mid = c.make_room.new.self in
    sized_finishes c.args.root c.args.identifier (c.finish_mask-mask.result + 1) old _ _ c.finish_mask-mask.ensures.greatest c.to_le_bytes-2.result c.in_ok-place.place mid c.put_three.new.self
    c.finish_mask-mask.ensures.all (c.self.invariant.0.written.promises, c.self.invariant.1.described) c.to_le_bytes.result
    (subst (λ bytes. MakesRoom (length bytes + 8) (c.finish_mask-mask.result + 1) old c.in_ok-place.place mid) name c.in_ok-place.ensures)
    (subst (λ bytes. PutsBytes (c.to_le_bytes.result ++ c.to_le_bytes-2.result ++ bytes) mid c.put_three.new.self) name c.put_three.ensures)
    c.to_le_bytes.ensures c.to_le_bytes-2.ensures

pub invariant_of-self-2 : goal.invariant_of-self-2
invariant_of-self-2 c = still_sound (sized_finish_entry c.args.root c.args.identifier) [] (state_of c.self.inside) _ c.in_ok-place.place c.self.invariant (finish c).puts

pub returns-clause-written : goal.returns-clause-written
returns-clause-written c = rw (← c.self.view_is) (finish c)

pub returns-clause-size : goal.returns-clause-size
returns-clause-size c =
    let rest = (c.to_le_bytes-2.result ++ c.identifier_slice-name.result.now) ++ c.make_room.new.self.bytes in
    let whole : c.in_ok-place.place ≡ length (to_le_bytes w32 (c.in_ok-place.place - 4) ++ rest) = rw (c.put_three.ensures, c.to_le_bytes.ensures) at (finish c).whole in
    rw (c.put_three.ensures, c.to_le_bytes.ensures) (front_number (c.in_ok-place.place - 4) rest (omega (arith, c.in_ok-place.ensures.fits)) ∙ ap Some (omega (arith, whole)))

refused : (c : goal.After-from_residual) → Refuses (sized_finish_entry c.args.root c.args.identifier) [] (state_of c.self.inside) c.in_err-place.field-0.0 (state_of (record c.self.inside { backing = c.make_room.new.self }))
refused c =
    front_refused (length (identifier_bytes c.args.identifier) + 8) (sized_words c.args.root c.args.identifier) (c.finish_mask-mask.result + 1) c.self.inside.backing _ _
    c.finish_mask-mask.ensures.greatest c.in_err-place.field-0.0 c.make_room.new.self c.in_err-place.ensures.0
    (subst (λ bytes. LacksRoom (length bytes + 8) (c.finish_mask-mask.result + 1) c.self.inside.backing c.in_err-place.field-0.0) c.identifier_slice-name.ensures.bytes c.in_err-place.ensures.1)

pub invariant_of-self : goal.invariant_of-self
invariant_of-self c = left_sound (sized_finish_entry c.args.root c.args.identifier) [] (state_of c.self.inside) _ c.in_err-place.field-0.0 c.self.invariant (refused c)

pub returns-in_err-place-clause-written : goal.returns-in_err-place-clause-written
returns-in_err-place-clause-written c =
    let p = err_from_is_err_and c.from_residual.result c.from_residual.ensures.1 in
    rw (p.1, p.2, ← c.self.view_is) (refused c)
