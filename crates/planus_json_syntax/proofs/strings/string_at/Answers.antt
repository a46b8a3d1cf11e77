use Rattle.std.proofs.Common.{rules, arith, subst, sym}
use Rattle.std.specs.String.{string_bytes}
use Rattle.planus_json_syntax.specs.Strings.{string_at}
use Rattle.planus_json_syntax.specs.Steps.{Gives}
use Rattle.planus_json_syntax.proofs.Contents.{GoesOn}
use Rattle.planus_json_syntax.proofs.Contents.{at_quote, at_end, at_last, at_control, at_plain, at_escape, at_fault}
use Rattle.planus_json_syntax.proofs.strings.string_at.Goals as goal

pub returns-then-first-eq34-clause-reads : goal.returns-then-first-eq34-clause-reads
returns-then-first-eq34-clause-reads c =
    subst (λ content. Gives (λ x. (string_bytes x.0, x.1.now)) c.closed.result content)
    (at_quote c.bytes.said.items c.bytes.rest.now c.in-Some.after.now (string_at c.args.bytes.now) c.bytes.invariant.reads (search rules))
    c.closed.ensures.reads

pub returns-in_default-split_first-clause-reads : goal.returns-in_default-split_first-clause-reads
returns-in_default-split_first-clause-reads c =
    at_last c.bytes.said.items c.bytes.rest.now c.in-Some.after.now c.in-Some.first.now (string_at c.args.bytes.now) c.bytes.invariant.reads
    (search rules) c.if-first-eq92.true c.in_default-split_first.ensures.cases

pub bytes-preserved-in-Ok : goal.bytes-preserved-in-Ok
bytes-preserved-in-Ok c = record {
  reads = subst (λ said. GoesOn said c.in-Ok.next.now (string_at c.args.bytes.now)) (sym c.in_ok-push_char-in-Ok.ensures)
      (at_escape c.bytes.said.items c.bytes.rest.now c.in-Some.after.now c.in-Some-split_first.digits.now c.in-Ok.next.now c.in-Some.first.now c.in-Some-split_first.letter.now c.in-Ok.c
      (string_at c.args.bytes.now) c.bytes.invariant.reads (search rules) c.if-first-eq92.true (search rules) c.in-Ok.ensures.found c.in-Ok.ensures.shorter);
  shorter = search rules;
}

pub returns-in-Err-clause-reads : goal.returns-in-Err-clause-reads
returns-in-Err-clause-reads c =
    at_fault c.bytes.said.items c.bytes.rest.now c.in-Some.after.now c.in-Some-split_first.digits.now c.in-Some.first.now c.in-Some-split_first.letter.now c.in-Err.kind
    (string_at c.args.bytes.now) c.bytes.invariant.reads (search rules) c.if-first-eq92.true (search rules) c.in-Err.ensures.found

pub returns-then-first-lt32-clause-reads : goal.returns-then-first-lt32-clause-reads
returns-then-first-lt32-clause-reads c =
    at_control c.bytes.said.items c.bytes.rest.now c.in-Some.after.now c.in-Some.first.now (string_at c.args.bytes.now) c.bytes.invariant.reads (search rules) c.if-first-lt32.true

pub bytes-preserved : goal.bytes-preserved
bytes-preserved c = record {
  reads = subst (λ said. GoesOn said c.in-Some.after.now (string_at c.args.bytes.now)) (sym c.in_ok-push.ensures.items)
      (at_plain c.bytes.said.items c.bytes.rest.now c.in-Some.after.now c.in-Some.first.now (string_at c.args.bytes.now) c.bytes.invariant.reads (search rules)
      (grind arith) (grind arith) c.if-first-lt32.false);
  shorter = search rules;
}

pub returns-clause-reads : goal.returns-clause-reads
returns-clause-reads c =
    at_end c.bytes.said.items c.bytes.rest.now (string_at c.args.bytes.now) c.bytes.invariant.reads c.in_default.ensures.cases
