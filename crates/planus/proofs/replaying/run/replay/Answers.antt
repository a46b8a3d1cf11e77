use Rattle.std.proofs.Common.{arith, refl}
use Rattle.std.proofs.lemmas.Result.{err_from_is_err_and}
use Rattle.planus_write.specs.History.{no_history}
use Rattle.planus_write.specs.View.{settings_of}
use Rattle.planus.proofs.Replayed.{are_reached, number_is, ran, reaches_next, stops, all_finished, all_hold}
use Rattle.planus.proofs.replaying.run.replay.Goals as goal

pub advance-requires-clause-reached : goal.advance-requires-clause-reached
advance-requires-clause-reached c = are_reached (settings_of c.args.caches) c.args.steps.now c.loop-step.step-index c.loop-step.progress c.loop-step.invariant

pub returns-in_err-advance-clause-run : goal.returns-in_err-advance-clause-run
returns-in_err-advance-clause-run c =
    let p = err_from_is_err_and c.from_residual-in_err-advance.result c.from_residual-in_err-advance.ensures.1 in
    rw (p.1, p.2) (stops (settings_of c.args.caches) c.args.steps.now c.loop-step.step-index c.step-item.result c.loop-step-test.true c.step-item.is c.loop-step.progress c.loop-step.invariant c.in_err-advance.field-0.0 c.in_err-advance.ensures)

pub loop-step-preserved : goal.loop-step-preserved
loop-step-preserved c =
    reaches_next (settings_of c.args.caches) c.args.steps.now c.loop-step.step-index c.step-item.result c.loop-step-test.true c.step-item.is c.loop-step.progress c.loop-step.invariant c.advance.new.self c.in_ok-advance.ensures

pub returns-clause-run : goal.returns-clause-run
returns-clause-run c = ran (settings_of c.args.caches) c.args.steps.now c.loop-step.step-index c.loop-step.progress c.loop-step-test.false c.loop-step.invariant

pub returns-clause-holds : goal.returns-clause-holds
returns-clause-holds c = all_hold (settings_of c.args.caches) c.args.steps.now c.loop-step.step-index c.loop-step.progress c.loop-step-test.false c.loop-step.invariant

pub advance-requires-clause-number : goal.advance-requires-clause-number
advance-requires-clause-number c = let number = number_is (settings_of c.args.caches) c.args.steps.now c.loop-step.step-index c.loop-step.progress (omega arith) c.loop-step.invariant in let count = c.loop-step.progress.offsets.ok.0 in omega (arith, number, count)

pub loop-step-init : goal.loop-step-init
loop-step-init c = record {
  run = (no_history, c.in_ok-progress.ensures.history, c.in_ok-progress.ensures.nothing);
  switched = c.in_ok-progress.ensures.settings;
  clean = refl;
  taken = c.in_ok-progress.ensures.taken;
}

pub returns-clause-of_steps : goal.returns-clause-of_steps
returns-clause-of_steps c = all_finished (settings_of c.args.caches) c.args.steps.now c.loop-step.step-index c.loop-step.progress c.loop-step-test.false c.loop-step.invariant
