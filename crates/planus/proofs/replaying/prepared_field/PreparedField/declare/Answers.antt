use Rattle.std.proofs.Common.{subst, ◌+◌, ◌≤◌, length, arith, lit<}
use Rattle.planus_write.specs.Tables.{field_size}
use Rattle.planus.specs.inner.Prepared.{field_is}
use Rattle.planus_write.specs.lemmas.Laws.{alignment_is_small}
use Rattle.planus.proofs.WrittenValues.{checked_layout}
use Rattle.planus.proofs.replaying.prepared_field.PreparedField.declare.Goals as goal

pub write_layout-requires : goal.write_layout-requires
write_layout-requires c =
    let part = c.in-Struct.part in
    let layout = checked_layout part.alignment part.bytes.now part.good in
    let low = alignment_is_small (length part.bytes.now) part.alignment layout in
    let small = c.requires.small in (
      lit< tt,
      (
        omega (arith, small),
        (omega (arith, small), (c.requires.unused, (subst (λ f. c.args.writer.now.object_size + field_size (field_is f) ≤ 65535) c.in-Struct.is c.requires.fits, (layout, omega (arith, low))))),
      ),
    )
