use Rattle.planus.specs.inner.Structs.{items_in}
use Rattle.planus.proofs.Stepping.{plains_advanced}
use Rattle.planus.proofs.replaying.state.ReplayState.plains.Goals as goal

pub returns-in-Ok : goal.returns-in-Ok
returns-in-Ok c =
    let items = c.in-Ok.items in
    plains_advanced c.args.alignment c.args.size c.args.bytes.now items.size items.alignment (items_in items) c.in-Ok.ensures
    c.args.self.now (Unit {0}) c.write.result c.write.new.self c.write.ensures
