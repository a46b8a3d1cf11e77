use Rattle.std.proofs.Common.{ℕ, [], length, sym, subst, refl}
use Rattle.std.proofs.lemmas.Result.{err_from_is_err_and}
use Rattle.planus_write.specs.History.{unshared_entry}
use Rattle.planus_write.specs.Parts.{tags_part, count_part}
use Rattle.planus_write.specs.Placing.{PlacesEntry}
use Rattle.planus_write.proofs.WrittenLists.{count_refused, counted_written}
use Rattle.planus_write.specs.declared.offset.List as list
use Rattle.planus_write.proofs.unions.write_tags.Goals as goal

pub write_over-requires-clause-power : goal.write_over-requires-clause-power
write_over-requires-clause-power c = (2, refl)

pub returns-in_err-place : goal.returns-in_err-place
returns-in_err-place c =
    let p = err_from_is_err_and c.from_residual-in_err-place.result c.from_residual-in_err-place.ensures.1 in
    rw (p.1, p.2)
    (count_refused (tags_part c.args.tags.now) (length c.args.tags.now) c.args.builder.now
    (length c.write_over.new.self.bytes) c.write_over.new.self
    c.in_ok-write_over.ensures.written
    (list.List ℕ) c.in_err-place.field-0.0 c.write_count.new.self
    c.in_err-place.ensures)

pub returns : goal.returns
returns c =
    counted_written (tags_part c.args.tags.now) (length c.args.tags.now) c.args.builder.now
    (length c.write_over.new.self.bytes) c.write_over.new.self
    c.in_ok-write_over.ensures.written
    c.at.result c.write_count.new.self (subst (λ n. PlacesEntry (unshared_entry (count_part (length c.args.tags.now))) [] c.write_over.new.self n c.write_count.new.self) (sym c.at.ensures) c.in_ok-place.ensures)
