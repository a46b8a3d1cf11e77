use Rattle.std.proofs.Common.{map, refl, arith, lit≤, Ok, Err, inr}
use Rattle.std.proofs.lemmas.Result.{err_from_is_err_and}
use Rattle.planus_write.specs.Tables.{declared_of}
use Rattle.planus.specs.Steps.{bare_field}
use Rattle.planus.specs.declared.replaying.faults.ReplayError.TheVariants.{OutOfMemory}
use Rattle.planus.specs.declared.replaying.written.Written.TheVariants.{Value}
use Rattle.planus.proofs.SteppingTables.{table_advanced, table_stopped, body_sized, body_reaches, table_put, table_not_put}
use Rattle.planus.proofs.replaying.state.ReplayState.table.Goals as goal

pub finish-requires : goal.finish-requires
finish-requires c =
    let made = c.in-Ok.ensures in (
      omega arith,
      (
        lit≤ tt,
        (body_sized c.args.self.now c.as_slice.result.now c.as_slice.ensures.value (map bare_field c.args.fields.now) made.0 made.1 c.in-Ok.writer made.2, body_reaches c.args.self.now c.as_slice.result.now c.as_slice.ensures.value (map bare_field c.args.fields.now) made.0 made.1 c.requires.reached),
      ),
    )

pub returns-in_err-finish : goal.returns-in_err-finish
returns-in_err-finish c =
    let made = c.in-Ok.ensures in
    let p = err_from_is_err_and c.from_residual.result c.from_residual.ensures.1 in
    rw (p.1, p.2) (table_stopped (map bare_field c.args.fields.now) made.0 c.args.self.now made.1 c.in_err-finish.field-0.0
    (record { builder = c.finish.new.builder; first = c.args.self.now.first; offsets = c.args.self.now.offsets; finished = c.args.self.now.finished })
    (table_not_put c.args.self.now c.as_slice.result.now c.as_slice.ensures.value (map bare_field c.args.fields.now) made.0 made.1 c.in_err-finish.field-0.0 c.finish.new.builder (c.in_err-finish.ensures (declared_of made.0) made.2)))

pub returns : goal.returns
returns c =
    let made = c.in-Ok.ensures in
    table_advanced (map bare_field c.args.fields.now) made.0 c.args.self.now made.1 (Unit {0}) (Ok tt)
    (record { builder = c.finish.new.builder; first = c.args.self.now.first; offsets = c.push.new.self; finished = c.args.self.now.finished })
    (record {
      answer = c.current_offset-table.result;
      noted = Value c.current_offset-table.result;
      done = table_put c.args.self.now c.as_slice.result.now c.as_slice.ensures.value (map bare_field c.args.fields.now) made.0 made.1 c.current_offset-table.result c.finish.new.builder (c.in_ok-finish.ensures (declared_of made.0) made.2) c.current_offset-table.ensures;
      same = refl;
      first = refl;
      pushed = c.in_ok-push.ensures.items;
      finished = refl;
    })

pub returns-in_err-push : goal.returns-in_err-push
returns-in_err-push c =
    let made = c.in-Ok.ensures in
    let p = err_from_is_err_and c.from_residual-in_err-push.result c.from_residual-in_err-push.ensures.1 in
    rw (p.1, p.2) (table_advanced (map bare_field c.args.fields.now) made.0 c.args.self.now made.1 (Unit {0}) (Err OutOfMemory)
    (record { builder = c.finish.new.builder; first = c.args.self.now.first; offsets = c.push.new.self; finished = c.args.self.now.finished })
    (inr (
      c.current_offset-table.result,
      c.finish.new.builder,
      table_put c.args.self.now c.as_slice.result.now c.as_slice.ensures.value (map bare_field c.args.fields.now) made.0 made.1 c.current_offset-table.result c.finish.new.builder (c.in_ok-finish.ensures (declared_of made.0) made.2) c.current_offset-table.ensures,
    )))
