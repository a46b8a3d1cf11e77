use Rattle.std.proofs.Common.{inl, inr, sym, ◌≡◌, ◌≢◌, ◌+◌, ◌∷◌, [], length, rules, subst, arith}
use Rattle.std.proofs.lemmas.Result.{err_from_is_err_and}
use Rattle.planus_cli.specs.declared.streams.CallError.{CallError}
use Rattle.planus_cli.specs.Buffers.{header_text, look_left, look_of, Look, ViewsSized, FailsNext}
use Rattle.std.proofs.KnownBytes.{Keeps-refl}
use Rattle.planus_cli.proofs.Failing.{if_err}
use Rattle.planus_cli.proofs.Led.{first_cut, first_on, first_then_failed, parts_left}
use Rattle.planus_cli.proofs.Sized.{ended, ended_early}
use Rattle.planus_cli.proofs.view.view_sized.Goals as goal

pub buffers-init : goal.buffers-init
buffers-init g c = record {
  place = omega arith;
  count = omega arith;
  views = λ buffers status after said views. (buffers, views);
  fails = λ buffers error after said fails. (buffers, fails);
}

pub buffers-preserved : goal.buffers-preserved
buffers-preserved g c =
    let look = look_left (look_of c.args.view.now) c.buffers.left in
    let parts = parts_left c.buffers.rest.now c.in-Some.buffer.now c.in-Some.after.now c.in-Some.ensures in
    let place = c.buffers.invariant.place in
    let count = c.buffers.invariant.count in
    record {
      place = omega (arith, parts, place);
      count = omega (arith, count);
      views = λ buffers status after said views.
          c.buffers.invariant.views (c.in-Some.buffer.now ∷ buffers) status after said
          (first_on look (look_of c.with_limits-view.result) c.buffers.number c.buffers.at c.in-Some.buffer.now c.buffers.rest.now c.in-Some.after.now buffers c.in_ok-one.one
          c.buffers.worst status (g.W.Write.contents c.buffers.writer) (g.W.Write.contents c.view_next.new.writer) after
          (g.X.Write.contents c.buffers.errors) (g.X.Write.contents c.view_next.new.errors) said
          c.with_limits-view.ensures c.in-Some.ensures c.in_ok-one.ensures.views c.if-one.false
          (subst (λ worst. ViewsSized (look_left look c.in_ok-one.one.left) (c.buffers.number + 1) (c.buffers.at + (4 + length c.in-Some.buffer.now)) buffers c.in-Some.after.now worst status
          (g.W.Write.contents c.view_next.new.writer) after (g.X.Write.contents c.view_next.new.errors) said)
          c.max-worst.ensures views));
      fails = λ buffers error after said fails.
          c.buffers.invariant.fails (c.in-Some.buffer.now ∷ buffers) error after said
          (first_then_failed look (look_of c.with_limits-view.result) c.buffers.number c.buffers.at c.in-Some.buffer.now c.buffers.rest.now c.in-Some.after.now buffers c.in_ok-one.one
          error (g.W.Write.contents c.buffers.writer) (g.W.Write.contents c.view_next.new.writer) after
          (g.X.Write.contents c.buffers.errors) (g.X.Write.contents c.view_next.new.errors) said
          c.with_limits-view.ensures c.in-Some.ensures c.in_ok-one.ensures.views c.if-one.false fails);
    }

pub returns-in_err-say-clause-failed : goal.returns-in_err-say-clause-failed
returns-in_err-say-clause-failed g c =
    if_err c.from_residual.result _ (λ error. c.buffers.invariant.fails [] error (g.W.Write.contents c.buffers.writer) (g.X.Write.contents c.say.new.errors)
    (inr (c.in_default.ensures, Keeps-refl (g.W.Write.contents c.buffers.writer), c.in_err-say.ensures.begun)))

pub returns-in_err-one-clause-failed : goal.returns-in_err-one-clause-failed
returns-in_err-one-clause-failed g c =
    let p = err_from_is_err_and c.from_residual-in_err-one.result c.from_residual-in_err-one.ensures.1 in
    let before = g.W.Write.contents c.buffers.writer in let after = g.W.Write.contents c.view_next.new.writer in
    let unsaid = g.X.Write.contents c.buffers.errors in let said = g.X.Write.contents c.view_next.new.errors in
    let header = header_text (c.buffers.number + 1) (c.buffers.at + 4) in
    rw p.1 (c.buffers.invariant.fails [] p.0 after said
    (inl (
      c.in-Some.buffer.now,
      c.in-Some.after.now,
      c.in-Some.ensures,
      subst (λ (error : CallError). FailsNext (look_left (look_of c.args.view.now) c.buffers.left) header c.in-Some.buffer.now error before after unsaid said) (sym p.2)
          (subst (λ (look : Look). FailsNext look header c.in-Some.buffer.now c.in_err-one.field-0.0 before after unsaid said) c.with_limits-view.ensures c.in_err-one.ensures.failed),
    )))

pub returns-in_default-clause-views : goal.returns-in_default-clause-views
returns-in_default-clause-views g c =
    let some : length c.buffers.rest.now ≢ 0 = search rules in
    c.buffers.invariant.views [] 1 (g.W.Write.contents c.buffers.writer) (g.X.Write.contents c.say.new.errors)
    (ended_early c.args.view.now.name.now c.buffers.rest.now c.buffers.worst (g.W.Write.contents c.buffers.writer)
    (g.X.Write.contents c.buffers.errors) (g.X.Write.contents c.say.new.errors) some c.in_default.ensures c.in_ok-say.ensures.said)

pub returns-then-one-clause-views : goal.returns-then-one-clause-views
returns-then-one-clause-views g c =
    c.buffers.invariant.views (c.in-Some.buffer.now ∷ []) c.max-worst.result (g.W.Write.contents c.view_next.new.writer) (g.X.Write.contents c.view_next.new.errors)
    (first_cut (look_left (look_of c.args.view.now) c.buffers.left) (look_of c.with_limits-view.result) c.buffers.number c.buffers.at c.in-Some.buffer.now c.buffers.rest.now
    c.in-Some.after.now c.in_ok-one.one c.buffers.worst c.max-worst.result (g.W.Write.contents c.buffers.writer) (g.W.Write.contents c.view_next.new.writer)
    (g.X.Write.contents c.buffers.errors) (g.X.Write.contents c.view_next.new.errors)
    c.with_limits-view.ensures c.in-Some.ensures c.in_ok-one.ensures.views c.if-one.true c.max-worst.ensures)

pub returns-clause-views : goal.returns-clause-views
returns-clause-views g c =
    let none : length c.buffers.rest.now ≡ 0 = search rules in
    c.buffers.invariant.views [] c.buffers.worst (g.W.Write.contents c.buffers.writer) (g.X.Write.contents c.buffers.errors)
    (ended c.args.view.now.name.now c.buffers.rest.now c.buffers.worst (g.W.Write.contents c.buffers.writer)
    (g.X.Write.contents c.buffers.errors) none)
