use Rattle.planus_write.specs.declared.offset.Offset.{Offset}
use Rattle.planus_write.specs.declared.offset.List.{List as ListOf}
use Rattle.planus.proofs.Stepping.{refs_advanced, found_reached}
use Rattle.planus.proofs.replaying.state.ReplayState.refs.Goals as goal

pub write-requires : goal.write-requires
write-requires c = found_reached c.args.self.now c.requires.reached c.args.steps.now c.in_ok-offsets.offsets.items c.in_ok-offsets.ensures

pub returns : goal.returns
returns c =
    refs_advanced c.args.steps.now c.in_ok-offsets.offsets.items c.args.self.now c.in_ok-offsets.ensures (ListOf (Offset (Unit {0}))) c.write.result c.write.new.self c.write.ensures
