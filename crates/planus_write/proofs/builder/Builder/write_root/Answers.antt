use Rattle.std.proofs.Common.{[], ◌+◌, length, subst}
use Rattle.std.proofs.lemmas.Result.{err_from_is_err_and}
use Rattle.planus_write.specs.Parts.{identifier_bytes, root_words, finish_entry}
use Rattle.planus_write.specs.inner.Backed.{MakesRoom, PutsBytes, LacksRoom}
use Rattle.planus_write.specs.Finishing.{Finishes}
use Rattle.planus_write.specs.Placing.{Refuses}
use Rattle.planus_write.specs.View.{state_of}
use Rattle.planus_write.proofs.PlacedParts.{front_refused, finishes, still_sound, left_sound}
use Rattle.planus_write.proofs.builder.Builder.write_root.Goals as goal

finish : (c : goal.After-put) → Finishes c.args.root c.args.identifier (state_of c.self.inside) c.in_ok-place.place (state_of (record c.self.inside { backing = c.put.new.self }))
finish c =
    let name = c.identifier_slice-name.ensures.bytes in
    let old = c.self.inside.backing in
    let mid = c.make_room.new.self in
    finishes c.args.root c.args.identifier (c.finish_mask-mask.result + 1) old _ _ c.finish_mask-mask.ensures.greatest c.to_le_bytes.result c.in_ok-place.place mid c.put.new.self
    c.finish_mask-mask.ensures.all (c.self.invariant.0.written.promises, c.self.invariant.1.described) c.put_if_any.new.self
    (subst (λ bytes. MakesRoom (length bytes + 4) (c.finish_mask-mask.result + 1) old c.in_ok-place.place mid) name c.in_ok-place.ensures)
    (subst (λ bytes. PutsBytes bytes mid c.put_if_any.new.self) name c.put_if_any.ensures)
    c.put.ensures c.to_le_bytes.ensures

pub invariant_of-self-2 : goal.invariant_of-self-2
invariant_of-self-2 c = still_sound (finish_entry c.args.root c.args.identifier) [] (state_of c.self.inside) _ c.in_ok-place.place c.self.invariant (finish c).puts

pub returns : goal.returns
returns c = rw (← c.self.view_is) (finish c)

refused : (c : goal.After-from_residual) → Refuses (finish_entry c.args.root c.args.identifier) [] (state_of c.self.inside) c.in_err-place.field-0.0 (state_of (record c.self.inside { backing = c.make_room.new.self }))
refused c =
    front_refused (length (identifier_bytes c.args.identifier) + 4) (root_words c.args.root c.args.identifier) (c.finish_mask-mask.result + 1) c.self.inside.backing _ _
    c.finish_mask-mask.ensures.greatest c.in_err-place.field-0.0 c.make_room.new.self c.in_err-place.ensures.0
    (subst (λ bytes. LacksRoom (length bytes + 4) (c.finish_mask-mask.result + 1) c.self.inside.backing c.in_err-place.field-0.0) c.identifier_slice-name.ensures.bytes c.in_err-place.ensures.1)

pub invariant_of-self : goal.invariant_of-self
invariant_of-self c = left_sound (finish_entry c.args.root c.args.identifier) [] (state_of c.self.inside) _ c.in_err-place.field-0.0 c.self.invariant (refused c)

pub returns-in_err-place : goal.returns-in_err-place
returns-in_err-place c =
    let p = err_from_is_err_and c.from_residual.result c.from_residual.ensures.1 in
    rw (p.1, p.2, ← c.self.view_is) (refused c)
