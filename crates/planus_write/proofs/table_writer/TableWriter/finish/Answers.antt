use Rattle.std.proofs.Common.{◌≡◌, ℕ, List, length, take, sym, ap, ◌∙◌, subst}
use Rattle.std.specs.Int.{w16, to_le_bytes}
use Rattle.std.proofs.lemmas.Result.{err_from_is_err_and}
use Rattle.planus_write.specs.Tables.{Declared, slots_used, vtable_of}
use Rattle.planus_write.specs.TableWriting.{Writer, WasTold}
use Rattle.planus_write.proofs.ToldTables.{with_pair, written_vtable}
use Rattle.planus_write.proofs.WholeTables.{table_put, nothing_done}
use Rattle.planus_write.proofs.WrittenTables.{vtable_refused, body_refused, word_refused, table_written}
use Rattle.planus_write.proofs.table_writer.TableWriter.finish.Goals as goal

made : (writer : Writer) (declared : List Declared) → WasTold writer declared → (once twice : List ℕ) → once ≡ with_pair 0 (to_le_bytes w16 writer.vtable_size) writer.vtable
    → twice ≡ with_pair 2 (to_le_bytes w16 writer.object_size) once → take writer.vtable_size twice ≡ vtable_of (slots_used declared) declared
made writer declared told once twice first second =
    ap (take writer.vtable_size) (second ∙ ap (with_pair 2 (to_le_bytes w16 writer.object_size)) first) ∙ written_vtable writer declared told

pub returns-in_err-place : goal.returns-in_err-place
returns-in_err-place g c = λ declared told.
    let p = err_from_is_err_and c.from_residual.result c.from_residual.ensures.1 in
    let writer : Writer = record { vtable = c.self.inside.vtable; vtable_size = c.self.inside.vtable_size; object_size = c.self.inside.object_size; mask = c.self.inside.mask } in
    let was : WasTold writer declared = subst (λ (w : Writer). WasTold w declared) (sym c.self.view_is) told in
    rw (p.1, p.2, ← nothing_done c.put_table.result _ _ _ c.put_table.new.self c.if-put_table.false c.put_table.ensures) (vtable_refused writer (take c.self.inside.vtable_size c.put_pair-2.new.bytes) (g.F.ObjectFill.encoding c.args.filler.now) declared was
    (made writer declared was c.put_pair.new.bytes c.put_pair-2.new.bytes c.put_pair.ensures c.put_pair-2.ensures) c.put_table.new.self c.in_err-place.field-0.0 c.write_vtable.new.self c.in_err-place.ensures)

pub returns-in_err-write_over : goal.returns-in_err-write_over
returns-in_err-write_over g c = λ declared told.
    let p = err_from_is_err_and c.from_residual-in_err-write_over.result c.from_residual-in_err-write_over.ensures.1 in
    let writer : Writer = record { vtable = c.self.inside.vtable; vtable_size = c.self.inside.vtable_size; object_size = c.self.inside.object_size; mask = c.self.inside.mask } in
    let was : WasTold writer declared = subst (λ (w : Writer). WasTold w declared) (sym c.self.view_is) told in
    rw (p.1, p.2, ← nothing_done c.put_table.result _ _ _ c.put_table.new.self c.if-put_table.false c.put_table.ensures) (body_refused writer (take c.self.inside.vtable_size c.put_pair-2.new.bytes) (g.F.ObjectFill.encoding c.args.filler.now) declared was
    (made writer declared was c.put_pair.new.bytes c.put_pair-2.new.bytes c.put_pair.ensures c.put_pair-2.ensures) c.put_table.new.self c.in_ok-place.place c.write_vtable.new.self c.in_ok-place.ensures
    c.in_err-write_over.field-0.0 c.write_over.new.self c.in_err-write_over.ensures.written)

pub returns-in_err-write_word : goal.returns-in_err-write_word
returns-in_err-write_word g c = λ declared told.
    let p = err_from_is_err_and c.from_residual-in_err-write_word.result c.from_residual-in_err-write_word.ensures.1 in
    let writer : Writer = record { vtable = c.self.inside.vtable; vtable_size = c.self.inside.vtable_size; object_size = c.self.inside.object_size; mask = c.self.inside.mask } in
    let was : WasTold writer declared = subst (λ (w : Writer). WasTold w declared) (sym c.self.view_is) told in
    rw (p.1, p.2, ← nothing_done c.put_table.result _ _ _ c.put_table.new.self c.if-put_table.false c.put_table.ensures) (word_refused writer (take c.self.inside.vtable_size c.put_pair-2.new.bytes) (g.F.ObjectFill.encoding c.args.filler.now) declared was
    (made writer declared was c.put_pair.new.bytes c.put_pair-2.new.bytes c.put_pair.ensures c.put_pair-2.ensures) c.put_table.new.self c.in_ok-place.place c.write_vtable.new.self c.in_ok-place.ensures
    (length c.write_over.new.self.bytes) c.write_over.new.self c.in_ok-write_over.ensures.written c.in_err-write_word.field-0.0 c.write_word.new.self c.in_err-write_word.ensures.entry)

pub returns : goal.returns
returns g c = λ declared told.
    let writer : Writer = record { vtable = c.self.inside.vtable; vtable_size = c.self.inside.vtable_size; object_size = c.self.inside.object_size; mask = c.self.inside.mask } in
    let was : WasTold writer declared = subst (λ (w : Writer). WasTold w declared) (sym c.self.view_is) told in
    rw (← nothing_done c.put_table.result _ _ _ c.put_table.new.self c.if-put_table.false c.put_table.ensures) (table_written writer (take c.self.inside.vtable_size c.put_pair-2.new.bytes) (g.F.ObjectFill.encoding c.args.filler.now) declared was
    (made writer declared was c.put_pair.new.bytes c.put_pair-2.new.bytes c.put_pair.ensures c.put_pair-2.ensures) c.put_table.new.self c.in_ok-place.place c.write_vtable.new.self c.in_ok-place.ensures
    (length c.write_over.new.self.bytes) c.write_over.new.self c.in_ok-write_over.ensures.written c.in_ok-write_word.field-0 c.write_word.new.self c.in_ok-write_word.ensures.entry c.in_ok-write_word.ensures.last)

pub returns-then-put_table : goal.returns-then-put_table
returns-then-put_table g c = λ declared told.
    let writer : Writer = record { vtable = c.self.inside.vtable; vtable_size = c.self.inside.vtable_size; object_size = c.self.inside.object_size; mask = c.self.inside.mask } in
    let was : WasTold writer declared = subst (λ (w : Writer). WasTold w declared) (sym c.self.view_is) told in
    let h = table_put c.put_table.result _ _ _ _ c.if-put_table.true c.put_table.ensures in
    table_written writer (take c.self.inside.vtable_size c.put_pair-2.new.bytes) (g.F.ObjectFill.encoding c.args.filler.now) declared was
    (made writer declared was c.put_pair.new.bytes c.put_pair-2.new.bytes c.put_pair.ensures c.put_pair-2.ensures) c.args.builder.now h.vtable_at h.first h.vtable_put
    h.body_at h.second h.body_put h.table_at c.put_table.new.self h.word_put h.last
