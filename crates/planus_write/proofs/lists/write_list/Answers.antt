use Rattle.planus_write.proofs.WrittenLists.{list_is}
use Rattle.planus_write.proofs.lists.write_list.Goals as goal

pub write_prepared-requires : goal.write_prepared-requires
write_prepared-requires g c =
    g.met.T.VectorWrite.are_lawful.reach_all c.args.items.now c.args.builder.now c.in-Some.values.now c.args.builder.now c.requires
    (c.in-Some.ensures c.args.builder.now)

pub prepare_items-requires : goal.prepare_items-requires
prepare_items-requires g c =
    g.met.T.VectorWrite.are_lawful.each_may c.args.items.now c.args.builder.now c.requires

pub returns-in-Some : goal.returns-in-Some
returns-in-Some g c =
    list_is g.T.VectorWrite.prepares g.T.Value.WriteAsPrimitive.encoding g.P.Primitive.SIZE g.P.Primitive.ALIGNMENT c.args.items.now c.in-Some.values.now
    c.args.builder.now c.args.builder.now (c.in-Some.ensures c.args.builder.now) c.write_prepared.result c.write_prepared.new.builder c.write_prepared.ensures
