use Rattle.planus.specs.inner.Structs.{plain_of}
use Rattle.planus.proofs.Stepping.{struct_advanced}
use Rattle.planus.proofs.WrittenValues.{checked_layout}
use Rattle.planus.proofs.replaying.state.ReplayState.structure.Goals as goal

pub write-requires : goal.write-requires
write-requires c = let part = c.in-Ok.part in checked_layout part.alignment part.bytes.now part.good

pub returns-in-Ok : goal.returns-in-Ok
returns-in-Ok c =
    struct_advanced c.args.alignment c.args.bytes.now (plain_of c.in-Ok.part) c.in-Ok.ensures c.args.self.now (Unit {0})
    c.write.result c.write.new.self c.write.ensures
