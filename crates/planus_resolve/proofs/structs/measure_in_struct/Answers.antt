use Rattle.std.proofs.Common.{sym, ◌∙◌, arith}
use Rattle.planus_resolve.proofs.MeasureLemmas.{among}
use Rattle.planus_resolve.proofs.structs.measure_in_struct.Goals as goal

pub returns-in-Some-clause-read : goal.returns-in-Some-clause-read
returns-in-Some-clause-read c = record {
  measure = sym c.in-Some.ensures;
  among = sym (among c.args.bodies.now c.args.base) ∙ sym c.in-Some.ensures;
  some = omega arith;
  small = omega arith;
  fits = omega arith;
}
