use Rattle.planus_write.specs.View.{settings_of}
use Rattle.planus.proofs.Replayed.{Reaches}
use Rattle.planus.proofs.replaying.run.replay.Given as goal

abbrev pub invariant-loop-step : goal.invariant-loop-step
invariant-loop-step l = Reaches (settings_of l.fn.caches) l.steps l.step-index l.progress
