use Rattle.std.proofs.Common.{◌+◌, ◌-◌, length, refl, arith}
use Rattle.planus_write.specs.lemmas.Laws.{alignment_is_small}
use Rattle.planus_write.proofs.WrittenStructs.{mask_and_one, placed, refused}
use Rattle.planus.proofs.replaying.struct_bytes.StructBytesWriteAsOffsetUnit.prepare.Goals as goal

pub write_over-requires-clause-bound : goal.write_over-requires-clause-bound
write_over-requires-clause-bound c =
    let part = c.args.self.now in
    let small = alignment_is_small (length part.bytes.now) part.alignment c.requires in
    let same = mask_and_one (length part.bytes.now) part.alignment part.alignment c.requires refl in
    omega (arith, small, same)

pub returns-in-Ok : goal.returns-in-Ok
returns-in-Ok c =
    let part = c.args.self.now in
    placed (record { bytes = part.bytes.now; alignment = part.alignment })
    (length part.bytes.now) (part.alignment - 1 + 1) refl
    (mask_and_one (length part.bytes.now) part.alignment part.alignment c.requires refl)
    c.args.builder.now c.write_over.new.self c.current_offset.result.distance
    c.current_offset.ensures c.in-Ok.ensures.written

pub returns-in-Err : goal.returns-in-Err
returns-in-Err c =
    let part = c.args.self.now in
    refused (record { bytes = part.bytes.now; alignment = part.alignment })
    (length part.bytes.now) (part.alignment - 1 + 1) refl
    (mask_and_one (length part.bytes.now) part.alignment part.alignment c.requires refl)
    c.args.builder.now c.write_over.new.self c.in-Err.error c.in-Err.ensures.written
