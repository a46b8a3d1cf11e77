use Rattle.std.proofs.Common.{inr}
use Rattle.std.proofs.lemmas.Result.{err_from_is_err_and}
use Rattle.planus_write.specs.Preparing.{Answers}
use Rattle.planus_write.specs.Unions.{WritesUnionVector}
use Rattle.planus.specs.inner.Names.{vector_named}
use Rattle.planus.proofs.Stepping.{value_refused}
use Rattle.planus.proofs.replaying.state.ReplayState.write_unions.Goals as goal

pub returns-in_err-vector : goal.returns-in_err-vector
returns-in_err-vector c =
    let p = err_from_is_err_and c.from_residual.result c.from_residual.ensures.1 in
    rw (p.1, p.2) (value_refused vector_named (WritesUnionVector Answers c.args.unions.now) c.args.self.now
    (record { builder = c.prepare.new.builder; first = c.args.self.now.first; offsets = c.args.self.now.offsets; finished = c.args.self.now.finished })
    c.in_err-vector.field-0.0 c.prepare.new.builder c.in_err-vector.ensures)

pub returns-in_err-push : goal.returns-in_err-push
returns-in_err-push c =
    let p = err_from_is_err_and c.from_residual-in_err-push.result c.from_residual-in_err-push.ensures.1 in
    rw (p.1, p.2) (inr (c.in_ok-vector.vector, c.prepare.new.builder, c.in_ok-vector.ensures))
