use Rattle.std.proofs.Common.{◌-◌, arith, sym, ap, subst, ◌∙◌, length}
use Rattle.planus_syntax.specs.Cutting.{cut_piece}
use Rattle.planus_syntax.specs.Spelled.{token}
use Rattle.planus_syntax.proofs.Placed.{Reaches, begun, reaches_self, reaches_on, counted, found_at, not_both, none_off, ends_at, empty_is}
use Rattle.planus_syntax.proofs.lexer.place_of.Goals as goal

pub returns-then-left-eq0-clause-stands : goal.returns-then-left-eq0-clause-stands
returns-then-left-eq0-clause-stands c =
    found_at (cut_piece c.in-Ok-Some-default.field-0-0-0) c.args.text.now c.loop-rest.rest.now
    c.in-Ok-Some-default.after.now c.args.index c.loop-rest.left c.loop-rest.invariant.reached c.if-left-eq0.true
    (rw c.in-Ok-Some-default.field-0-0-is at c.in-Ok-Some-default.ensures.cuts)
    (rw c.in-Ok-Some-default.field-0-0-is at c.in-Ok-Some-default.ensures.starts)
    c.loop-rest.invariant.tokens

pub returns-in-Err-clause-stands : goal.returns-in-Err-clause-stands
returns-in-Err-clause-stands c = λ ps o i.
    absurd (not_both _ _ _ (c.loop-rest.invariant.tokens ps o i) c.in-Err.ensures.cuts)

pub loop-rest-init : goal.loop-rest-init
loop-rest-init c = record {
  shorter = omega arith;
  reached = subst (λ n. Reaches c.args.text.now c.args.text.now n) (omega arith) (reaches_self c.args.text.now);
  counted = omega arith;
  tokens = λ ps o i. begun c.args.text.now c.args.index ps o;
}

pub loop-rest-preserved-in-Ok-Some-default : goal.loop-rest-preserved-in-Ok-Some-default
loop-rest-preserved-in-Ok-Some-default c = record {
  shorter = omega (arith, c.in-Ok-Some-default.ensures.shorter, c.loop-rest.invariant.shorter);
  reached = reaches_on c.args.text.now c.loop-rest.rest.now c.in-Ok-Some-default.after.now
      (c.args.index - c.loop-rest.left) _ (token (cut_piece c.in-Ok-Some-default.field-0-0-0)) c.loop-rest.invariant.reached
      (rw c.in-Ok-Some-default.field-0-0-is at c.in-Ok-Some-default.ensures.starts)
      (omega (arith, c.loop-rest.invariant.counted, c.if-left-eq0.false));
  counted = omega (arith, c.loop-rest.invariant.counted);
  tokens = counted (cut_piece c.in-Ok-Some-default.field-0-0-0) c.args.text.now
      c.loop-rest.rest.now c.in-Ok-Some-default.after.now c.args.index c.loop-rest.left
      (omega (arith, c.loop-rest.invariant.counted)) (omega (arith, c.if-left-eq0.false))
      (rw c.in-Ok-Some-default.field-0-0-is at c.in-Ok-Some-default.ensures.cuts) c.loop-rest.invariant.tokens;
}

pub loop-rest-preserved : goal.loop-rest-preserved
loop-rest-preserved c =
    let starts = rw c.in-Ok-None-default.field-0-0-is at c.in-Ok-None-default.ensures.starts in
    record {
      shorter = omega (arith, c.in-Ok-None-default.ensures.shorter, c.loop-rest.invariant.shorter);
      reached = reaches_on c.args.text.now c.loop-rest.rest.now c.in-Ok-None-default.after.now
          (c.args.index - c.loop-rest.left) _ starts.0 c.loop-rest.invariant.reached
          starts.2 (omega (arith, ap length starts.1));
      counted = c.loop-rest.invariant.counted;
      tokens = λ ps o i. none_off c.loop-rest.rest.now c.in-Ok-None-default.after.now _
          (rw c.in-Ok-None-default.field-0-0-is at c.in-Ok-None-default.ensures.cuts) (c.loop-rest.invariant.tokens ps o i);
    }

pub returns-clause-stands : goal.returns-clause-stands
returns-clause-stands c =
    ends_at c.args.text.now c.loop-rest.rest.now c.args.index c.loop-rest.left
    (empty_is c.loop-rest.rest.now (sym c.is_empty.ensures ∙ c.loop-rest-test.false))
    c.loop-rest.invariant.counted c.loop-rest.invariant.reached c.loop-rest.invariant.tokens
