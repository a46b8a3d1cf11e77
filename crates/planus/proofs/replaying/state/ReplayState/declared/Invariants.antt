use Rattle.std.proofs.Common.{map, take}
use Rattle.planus.specs.Steps.{bare_field}
use Rattle.planus.proofs.Declaring.{Declares}
use Rattle.planus.proofs.replaying.state.ReplayState.declared.Given as goal

abbrev pub invariant-loop-index : goal.invariant-loop-index
invariant-loop-index l = Declares l.self (map bare_field (take l.index l.fields)) l.fits l.writer l.before
