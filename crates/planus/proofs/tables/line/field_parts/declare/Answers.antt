use Rattle.std.proofs.Common.{subst, sym}
use Rattle.planus_write.specs.Tables.{Declared}
use Rattle.planus.specs.TableFields.{IsUnused}
use Rattle.planus.proofs.FieldLists.{still_unused, told_item}
use Rattle.planus.proofs.tables.line.field_parts.declare.Goals as goal

pub returns-clause-told : goal.returns-clause-told
returns-clause-told g c = λ fields told.
    let value = c.args._field.now in
    told_item c.args.slot g.A.WriteAsPrimitive.field g.P.Primitive.SIZE g.P.Primitive.ALIGNMENT
    (g.A.WriteAsPrimitive.reach value) (g.A.WriteAsPrimitive.encoding value) value
    (g.met.A.WriteAsPrimitive.is_item value) (g.W.TableWrite.at c.enter.new.self) fields
    (c.enter.ensures.told _ told)

pub returns-clause-others : goal.returns-clause-others
returns-clause-others g c = λ other apart unused.
    let one : Declared = record {
      slot = c.args.slot;
      size = g.P.Primitive.SIZE;
      alignment = g.P.Primitive.ALIGNMENT;
    } in
    subst (λ writer. IsUnused writer other) (sym c.enter.ensures.entered)
    (still_unused (g.W.TableWrite.at c.args.writer.now) one other apart c.requires.unused unused)
