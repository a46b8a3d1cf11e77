use Rattle.std.proofs.Common.{rules}
use denote.Enum.Bare.{same_true}
use Rattle.harbour.specs.contracts.signal.Signal.{the_type}
use Rattle.harbour.proofs.signal.SignalExact.equal_is_same.Goals as goal

pub returns : goal.returns
returns c = λ e. same_true the_type (search rules) _ _ e
