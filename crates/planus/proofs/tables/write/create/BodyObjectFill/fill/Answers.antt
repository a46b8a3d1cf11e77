use Rattle.std.proofs.Common.{arith, ap}
use Rattle.planus_write.specs.ObjectWriting.{ObjectBody}
use Rattle.planus.proofs.FieldLists.{both_written, size_append}
use Rattle.planus.proofs.tables.write.create.BodyObjectFill.fill.Goals as goal

pub write-requires-clause-room : goal.write-requires-clause-room
write-requires-clause-room g c =
    let body = c.args.self.now in
    let sizes = size_append (g.F.PreparedFields.there body.fields.now) (g.L.PreparedFields.there body.last.now) in
    let size = c.requires.size in
    omega (arith, sizes, size)

pub write-requires-clause-reach : goal.write-requires-clause-reach
write-requires-clause-reach g c =
    let body = c.args.self.now in
    let sizes = size_append (g.F.PreparedFields.there body.fields.now) (g.L.PreparedFields.there body.last.now) in
    let reach = c.requires.reach in
    omega (arith, sizes, reach)

pub write-requires-2-clause-room : goal.write-requires-2-clause-room
write-requires-2-clause-room g c =
    let body = c.args.self.now in
    let sizes = size_append (g.F.PreparedFields.there body.fields.now) (g.L.PreparedFields.there body.last.now) in
    let size = c.requires.size in
    let left = ap (λ (body : ObjectBody). body.remaining) c.write.ensures in
    omega (arith, sizes, size, left)

pub write-requires-2-clause-reach : goal.write-requires-2-clause-reach
write-requires-2-clause-reach g c =
    let body = c.args.self.now in
    let sizes = size_append (g.F.PreparedFields.there body.fields.now) (g.L.PreparedFields.there body.last.now) in
    let reach = c.requires.reach in
    let place = ap (λ (body : ObjectBody). body.place) c.write.ensures in
    omega (arith, sizes, reach, place)

pub returns : goal.returns
returns g c =
    let body = c.args.self.now in
    both_written (g.F.PreparedFields.there body.fields.now) (g.L.PreparedFields.there body.last.now) _ _ _
    c.write.ensures c.write-2.ensures
