use Rattle.std.proofs.Common.{◌+◌, refl, arith}
use Rattle.planus.proofs.Stepping.{clear_advances}
use Rattle.planus.proofs.replaying.state.ReplayState.clear.Goals as goal

pub returns : goal.returns
returns c =
    clear_advances c.args.self.now (record { builder = c.clear.new.self; first = c.args.self.now.first + (c.len.result + 1); offsets = c.clear-2.new.self; finished = c.args.self.now.finished })
    c.clear.ensures.history c.clear.ensures.settings (omega (arith, c.len.ensures)) c.clear-2.ensures.items refl
