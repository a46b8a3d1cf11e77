use Rattle.std.proofs.Common.{arith}
use Rattle.planus_back.proofs.promises.Promises.new.Goals as goal

pub returns-clause-described : goal.returns-clause-described
returns-clause-described c = record {
  powers = tt;
  reached = tt;
  kept = λ finished from. (λ _. (finished, omega arith), λ _. tt);
}
