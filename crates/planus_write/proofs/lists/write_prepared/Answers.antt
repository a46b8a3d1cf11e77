use Rattle.std.proofs.Common.{ℕ, ◌≡◌, ◌+◌, ◌*◌, ◌<◌, [], length, map, arith, ap, sym, ◌∙◌, subst}
use Rattle.std.proofs.lemmas.List.{length-map}
use Rattle.std.proofs.lemmas.Result.{err_from_is_err_and}
use Rattle.planus_back.specs.Padding.{greatest_place}
use Rattle.planus_back.specs.Parts.{Part}
use Rattle.planus_write.specs.History.{unshared_entry}
use Rattle.planus_write.specs.Parts.{items_part, count_part}
use Rattle.planus_write.specs.Placing.{PlacesEntry, Refuses}
use Rattle.planus_write.specs.declared.errors.BuildError.TheVariants.{TooLarge}
use Rattle.planus_write.proofs.WrittenLists.{items_power, part_is, may_stand, refused_by_size, part_refused, count_refused, counted_written}
use Rattle.planus_write.specs.declared.offset.List as list
use Rattle.planus_write.proofs.lists.write_prepared.Goals as goal

beyond : (n : ℕ) → (n < 18446744073709551616 → ⊥) → greatest_place < n
beyond n far = omega (arith, far)

pub returns-in_default : goal.returns-in_default
returns-in_default g c =
    let none : length c.args.values.now * c.stride.result < 18446744073709551616 → ⊥ = c.in_default.ensures in
    let encoding = g.T.Value.WriteAsPrimitive.encoding in
    let step : c.stride.result ≡ g.P.Primitive.SIZE = c.stride.ensures ∙ g.met.T.VectorWrite.is_size in
    let part = items_part g.P.Primitive.SIZE g.P.Primitive.ALIGNMENT (map encoding c.args.values.now) in
    let far : greatest_place < length (map encoding c.args.values.now) * g.P.Primitive.SIZE
    = subst (λ n. greatest_place < n) (ap (λ n. length c.args.values.now * n) step ∙ ap (λ n. n * g.P.Primitive.SIZE) (sym (length-map c.args.values.now encoding)))
    (beyond (length c.args.values.now * c.stride.result) none) in
    part_refused part (length (map encoding c.args.values.now)) c.args.builder.now (list.List g.row.P.Denot) TooLarge c.args.builder.now
    (refused_by_size part [] c.args.builder.now (items_power g.P.Primitive.SIZE g.P.Primitive.ALIGNMENT g.P.Primitive.is_layout) far)

pub write_over-requires-clause-fits : goal.write_over-requires-clause-fits
write_over-requires-clause-fits g c = λ place behind near within.
    let n_is : c.in-Some.size ≡ length c.args.values.now * g.T.VectorWrite.STRIDE = c.in-Some.ensures.1 ∙ ap (λ n. length c.args.values.now * n) c.stride.ensures in
    (n_is, may_stand g.T.Value.WriteAsPrimitive.encoding g.T.Value.WriteAsPrimitive.reach c.args.values.now g.T.VectorWrite.STRIDE g.P.Primitive.SIZE g.P.Primitive.ALIGNMENT g.met.T.VectorWrite.is_size (length c.args.builder.now.bytes) c.in-Some.size place n_is c.requires behind)

pub returns-in_err-write_over : goal.returns-in_err-write_over
returns-in_err-write_over g c =
    let p = err_from_is_err_and c.from_residual.result c.from_residual.ensures.1 in
    let encoding = g.T.Value.WriteAsPrimitive.encoding in
    let n_is : c.in-Some.size ≡ length c.args.values.now * g.T.VectorWrite.STRIDE = c.in-Some.ensures.1 ∙ ap (λ n. length c.args.values.now * n) c.stride.ensures in
    let part = part_is encoding g.T.Value.WriteAsPrimitive.reach c.args.values.now g.T.VectorWrite.STRIDE g.P.Primitive.SIZE g.P.Primitive.ALIGNMENT g.met.T.VectorWrite.is_size c.in-Some.size (c.items_mask.result + 1) n_is c.items_mask.ensures.greatest in
    rw (p.1, p.2)
    (part_refused (items_part g.P.Primitive.SIZE g.P.Primitive.ALIGNMENT (map encoding c.args.values.now)) (length (map encoding c.args.values.now)) c.args.builder.now
    (list.List g.row.P.Denot) c.in_err-write_over.field-0.0 c.write_over.new.self
    (subst (λ (part : Part). Refuses (unshared_entry part) [] c.args.builder.now c.in_err-write_over.field-0.0 c.write_over.new.self) part c.in_err-write_over.ensures.written))

pub returns-in_err-place : goal.returns-in_err-place
returns-in_err-place g c =
    let p = err_from_is_err_and c.from_residual-in_err-place.result c.from_residual-in_err-place.ensures.1 in
    let encoding = g.T.Value.WriteAsPrimitive.encoding in
    let n_is : c.in-Some.size ≡ length c.args.values.now * g.T.VectorWrite.STRIDE = c.in-Some.ensures.1 ∙ ap (λ n. length c.args.values.now * n) c.stride.ensures in
    let part = part_is encoding g.T.Value.WriteAsPrimitive.reach c.args.values.now g.T.VectorWrite.STRIDE g.P.Primitive.SIZE g.P.Primitive.ALIGNMENT g.met.T.VectorWrite.is_size c.in-Some.size (c.items_mask.result + 1) n_is c.items_mask.ensures.greatest in
    rw (p.1, p.2)
    (count_refused (items_part g.P.Primitive.SIZE g.P.Primitive.ALIGNMENT (map encoding c.args.values.now)) (length (map encoding c.args.values.now)) c.args.builder.now
    (length c.write_over.new.self.bytes) c.write_over.new.self
    (subst (λ (part : Part). PlacesEntry (unshared_entry part) [] c.args.builder.now (length c.write_over.new.self.bytes) c.write_over.new.self) part c.in_ok-write_over.ensures.written)
    (list.List g.row.P.Denot) c.in_err-place.field-0.0 c.write_count.new.self
    (subst (λ n. Refuses (unshared_entry (count_part n)) [] c.write_over.new.self c.in_err-place.field-0.0 c.write_count.new.self) (sym (length-map c.args.values.now encoding)) c.in_err-place.ensures))

pub returns : goal.returns
returns g c =
    let encoding = g.T.Value.WriteAsPrimitive.encoding in
    let n_is : c.in-Some.size ≡ length c.args.values.now * g.T.VectorWrite.STRIDE = c.in-Some.ensures.1 ∙ ap (λ n. length c.args.values.now * n) c.stride.ensures in
    let part = part_is encoding g.T.Value.WriteAsPrimitive.reach c.args.values.now g.T.VectorWrite.STRIDE g.P.Primitive.SIZE g.P.Primitive.ALIGNMENT g.met.T.VectorWrite.is_size c.in-Some.size (c.items_mask.result + 1) n_is c.items_mask.ensures.greatest in
    let put_count = subst (λ n. PlacesEntry (unshared_entry (count_part n)) [] c.write_over.new.self c.in_ok-place.place c.write_count.new.self) (sym (length-map c.args.values.now encoding)) c.in_ok-place.ensures in
    counted_written (items_part g.P.Primitive.SIZE g.P.Primitive.ALIGNMENT (map encoding c.args.values.now)) (length (map encoding c.args.values.now)) c.args.builder.now
    (length c.write_over.new.self.bytes) c.write_over.new.self
    (subst (λ (part : Part). PlacesEntry (unshared_entry part) [] c.args.builder.now (length c.write_over.new.self.bytes) c.write_over.new.self) part c.in_ok-write_over.ensures.written)
    c.at.result c.write_count.new.self (subst (λ n. PlacesEntry (unshared_entry (count_part (length (map encoding c.args.values.now)))) [] c.write_over.new.self n c.write_count.new.self) (sym c.at.ensures) put_count)
