use Rattle.std.proofs.Common.{◌+◌, ◌-◌, ◌∙◌, sym, arith}
use Rattle.planus_write.specs.lemmas.Laws.{alignment_is_small}
use Rattle.planus_write.proofs.WrittenStructs.{mask_and_one, placed, refused}
use Rattle.planus_write.proofs.impls.apart.ApartWriteAsOffset.prepare.Goals as goal

pub write_over-requires-clause-bound : goal.write_over-requires-clause-bound
write_over-requires-clause-bound g c =
    let small = alignment_is_small g.T.Plain.SIZE g.T.Plain.ALIGNMENT (g.T.Plain.shape).layout in
    let same = mask_and_one g.T.Plain.SIZE g.T.Plain.ALIGNMENT c.ALIGNMENT.result
    (g.T.Plain.shape).layout c.ALIGNMENT.ensures in
    omega (arith, small, same)

pub returns-in-Ok : goal.returns-in-Ok
returns-in-Ok g c =
    let x = c.args.self.now.0.now in
    placed (record { bytes = (g.T.Plain.shape).encoded x; alignment = g.T.Plain.ALIGNMENT })
    c.SIZE.result (c.ALIGNMENT.result - 1 + 1)
    ((g.T.Plain.shape).sized x ∙ sym c.SIZE.ensures)
    (mask_and_one g.T.Plain.SIZE g.T.Plain.ALIGNMENT c.ALIGNMENT.result
    (g.T.Plain.shape).layout c.ALIGNMENT.ensures)
    c.args.builder.now c.write_over.new.self c.current_offset.result.distance
    c.current_offset.ensures c.in-Ok.ensures.written

pub returns-in-Err : goal.returns-in-Err
returns-in-Err g c =
    let x = c.args.self.now.0.now in
    refused (record { bytes = (g.T.Plain.shape).encoded x; alignment = g.T.Plain.ALIGNMENT })
    c.SIZE.result (c.ALIGNMENT.result - 1 + 1)
    ((g.T.Plain.shape).sized x ∙ sym c.SIZE.ensures)
    (mask_and_one g.T.Plain.SIZE g.T.Plain.ALIGNMENT c.ALIGNMENT.result
    (g.T.Plain.shape).layout c.ALIGNMENT.ensures)
    c.args.builder.now c.write_over.new.self c.in-Err.error c.in-Err.ensures.written
