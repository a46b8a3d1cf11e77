use Rattle.std.proofs.Common.{[], rules, arith, refl}
use Rattle.planus_syntax.proofs.Placed.{closes_later}
use Rattle.planus_syntax.proofs.Scanning.{block_goes}
use Rattle.planus_syntax.proofs.lexer.block_at.Goals as goal

pub returns-in-Some-after_end-clause-closes : goal.returns-in-Some-after_end-clause-closes
returns-in-Some-after_end-clause-closes c =
    c.bytes.invariant.closes c.in-Some-after_end.end.now ([], c.in-Some-after_end.ensures, refl)

pub bytes-preserved : goal.bytes-preserved
bytes-preserved c = record {
  read = grind (arith, block_goes, c.bytes.invariant.read);
  shorter = search rules;
  closes = λ after h. c.bytes.invariant.closes after
      (closes_later c.bytes.rest.now c.in-Some.field-0-0.now c.in-Some.next.now after (search rules) (search rules) h);
}
