use Rattle.std.proofs.Common.{◌≡◌, take}
use Rattle.std.specs.Prelude.{fold}
use Rattle.planus_syntax.specs.declared.number.NumberState.TheVariants.{Start}
use Rattle.planus_syntax.specs.Tokens.{number_step}
use Rattle.planus_syntax.proofs.number.is_number.Given as goal

abbrev pub invariant-loop-b : goal.invariant-loop-b
invariant-loop-b l = l.state ≡ fold number_step Start (take l.b-index l.bytes)
