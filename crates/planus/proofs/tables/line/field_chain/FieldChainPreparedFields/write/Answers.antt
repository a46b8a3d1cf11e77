use Rattle.std.proofs.Common.{arith, ap, ◌∙◌}
use Rattle.planus_write.specs.ObjectWriting.{ObjectBody}
use Rattle.planus.specs.TableFields.{field_in}
use Rattle.planus.proofs.FieldLists.{both_written, one_written, size_append, size_of_field}
use Rattle.planus.proofs.tables.line.field_chain.FieldChainPreparedFields.write.Goals as goal

pub write-requires-clause-room : goal.write-requires-clause-room
write-requires-clause-room g c =
    let body = c.args.self.now in
    let sizes = size_append (g.B.PreparedFields.there body.before.now) (field_in g.row.SLOT g.A.WriteAsPrimitive.field body.value.now) in
    let room = c.requires.room in
    omega (arith, sizes, room)

pub write-requires-clause-reach : goal.write-requires-clause-reach
write-requires-clause-reach g c =
    let body = c.args.self.now in
    let sizes = size_append (g.B.PreparedFields.there body.before.now) (field_in g.row.SLOT g.A.WriteAsPrimitive.field body.value.now) in
    let reach = c.requires.reach in
    omega (arith, sizes, reach)

pub write_if-requires-clause-room : goal.write_if-requires-clause-room
write_if-requires-clause-room g c =
    let body = c.args.self.now in
    let sizes = size_append (g.B.PreparedFields.there body.before.now) (field_in g.row.SLOT g.A.WriteAsPrimitive.field body.value.now) in
    let one = size_of_field g.row.SLOT g.A.WriteAsPrimitive.field g.P.Primitive.SIZE body.value.now
    (λ a. (g.met.A.WriteAsPrimitive.is_item a).size_is) in
    let room = c.requires.room in
    let left = ap (λ (body : ObjectBody). body.remaining) c.write.ensures in
    omega (arith, sizes, one, room, left)

pub write_if-requires-clause-reach : goal.write_if-requires-clause-reach
write_if-requires-clause-reach g c =
    let body = c.args.self.now in
    let sizes = size_append (g.B.PreparedFields.there body.before.now) (field_in g.row.SLOT g.A.WriteAsPrimitive.field body.value.now) in
    let reach = c.requires.reach in
    let place = ap (λ (body : ObjectBody). body.place) c.write.ensures in
    omega (arith, sizes, reach, place)

pub returns : goal.returns
returns g c =
    let body = c.args.self.now in
    both_written (g.B.PreparedFields.there body.before.now) (field_in g.row.SLOT g.A.WriteAsPrimitive.field body.value.now) _ _ _
    c.write.ensures
    (c.write_if.ensures ∙ one_written g.row.SLOT g.A.WriteAsPrimitive.field g.A.WriteAsPrimitive.encoding
    g.A.WriteAsPrimitive.reach g.P.Primitive.SIZE g.P.Primitive.ALIGNMENT g.met.A.WriteAsPrimitive.is_item
    body.value.now _)
