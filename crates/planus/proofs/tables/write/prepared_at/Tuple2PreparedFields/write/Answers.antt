use Rattle.planus_write.specs.ObjectWriting.{body_of}
use Rattle.planus.proofs.FieldLists.{both_written}
use Rattle.planus.proofs.TwoParts.{first_written, second_written}
use Rattle.planus.proofs.tables.write.prepared_at.Tuple2PreparedFields.write.Goals as goal

pub write-requires : goal.write-requires
write-requires g c =
    let may = first_written (body_of c.args.writer.now) (g.F.PreparedFields.there c.args.self.now.0) (g.S.PreparedFields.there c.args.self.now.1)
    (g.F.PreparedFields.reach c.args.self.now.0) (g.S.PreparedFields.reach c.args.self.now.1) c.requires.room c.requires.reach in
    record { room = may.room; reach = may.reached }

pub write-requires-2 : goal.write-requires-2
write-requires-2 g c =
    let may = second_written (body_of c.args.writer.now) (body_of c.write.new.writer)
    (g.F.PreparedFields.there c.args.self.now.0) (g.S.PreparedFields.there c.args.self.now.1)
    (g.F.PreparedFields.reach c.args.self.now.0) (g.S.PreparedFields.reach c.args.self.now.1) c.requires.room c.requires.reach c.write.ensures in
    record { room = may.room; reach = may.reached }

pub returns : goal.returns
returns g c =
    both_written (g.F.PreparedFields.there c.args.self.now.0) (g.S.PreparedFields.there c.args.self.now.1) _ _ _
    c.write.ensures c.write-2.ensures
