use Rattle.std.proofs.Common.{arith, refl, sym, ◌∙◌}
use Rattle.planus_syntax.specs.Cutting.{cut_piece}
use Rattle.planus_syntax.proofs.Placed.{empty_is}
use Rattle.planus_syntax.proofs.ReadElements.{token_read, part_read, all_read, no_error}
use Rattle.planus_syntax.proofs.comments.elements.Goals as goal

pub loop-rest-preserved-in-Ok-Some-default : goal.loop-rest-preserved-in-Ok-Some-default
loop-rest-preserved-in-Ok-Some-default c = record {
  shorter = omega (arith, c.in-Ok-Some-default.ensures.shorter, c.loop-rest.invariant.shorter);
  left = λ whole a e. token_read _ _ _ (cut_piece c.in-Ok-Some-default.token) c.loop-rest.begun _ _ whole
      c.in_ok-push-in-Ok-Some-default.ensures.items refl
      (rw c.in-Ok-Some-default.field-0-0-is at c.in-Ok-Some-default.ensures.starts)
      (c.loop-rest.invariant.left whole a e);
}

pub loop-rest-preserved : goal.loop-rest-preserved
loop-rest-preserved c =
    let starts = rw c.in-Ok-None-default.field-0-0-is at c.in-Ok-None-default.ensures.starts in
    record {
      shorter = omega (arith, c.in-Ok-None-default.ensures.shorter, c.loop-rest.invariant.shorter);
      left = λ whole a e. part_read _ _ starts.0 c.loop-rest.begun c.in_ok-begun-in-Ok-None-default.begun _ c.split_at.result.0.now _ whole
          c.split_at.ensures.front starts.2
          (λ ps b f g. c.in_ok-begun-in-Ok-None-default.ensures starts.0 ps starts.1 b f g)
          (c.loop-rest.invariant.left whole a e);
    }

pub returns-in-Err : goal.returns-in-Err
returns-in-Err c = λ whole a e.
    absurd (no_error _ _ _ whole _ c.in-Err.ensures.cuts (c.loop-rest.invariant.left whole a e))

pub returns : goal.returns
returns c = λ whole a e.
    all_read _ _ c.loop-rest.rest.now whole
    (empty_is c.loop-rest.rest.now (sym c.is_empty.ensures ∙ c.loop-rest-test.false))
    (c.loop-rest.invariant.left whole a e)
