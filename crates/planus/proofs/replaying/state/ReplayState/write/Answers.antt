use Rattle.std.proofs.Common.{ℕ, None, refl, ap}
use Rattle.planus_write.specs.Parts.{Named}
use Rattle.std.proofs.lemmas.Result.{err_from_is_err_and}
use Rattle.planus.specs.inner.Names.{offset_named}
use Rattle.planus.specs.declared.replaying.written.Written.TheVariants.{Value}
use Rattle.planus.proofs.Stepping.{value_refused}
use Rattle.planus.proofs.replaying.state.ReplayState.write.Goals as goal

abbrev by_distance : ℕ → Named
by_distance distance = record { distance = distance; tags = None }

pub returns-in_err-offset : goal.returns-in_err-offset
returns-in_err-offset g c =
    let p = err_from_is_err_and c.from_residual.result c.from_residual.ensures.1 in
    rw (p.1, p.2) (value_refused offset_named (g.X.WriteAsOffset.outcome c.args.value.now) c.args.self.now
    (record { builder = c.prepare.new.builder; first = c.args.self.now.first; offsets = c.args.self.now.offsets; finished = c.args.self.now.finished })
    c.in_err-offset.field-0.0 c.prepare.new.builder c.in_err-offset.ensures)

pub returns : goal.returns
returns g c = record {
  answer = c.in_ok-offset.offset;
  noted = Value c.downcast.result;
  done = c.in_ok-offset.ensures;
  same = ap by_distance c.downcast.ensures;
  first = refl;
  pushed = c.in_ok-push.ensures.items;
  finished = refl;
}
