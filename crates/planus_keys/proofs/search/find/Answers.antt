use Rattle.std.proofs.Common.{◌+◌, ◌-◌, ◌/◌, arith, inr}
use Rattle.planus_keys.proofs.Searched.{none_is}
use Rattle.planus_keys.proofs.search.find.Goals as goal

pub returns-in-Err-key : goal.returns-in-Err-key
returns-in-Err-key g c = (
  c.loop-low.low + (c.loop-low.high - c.loop-low.low) / 2,
  omega arith,
  inr (c.in-Ok.item, record { read = c.in-Ok.ensures; has = c.in-Err-key.ensures }),
)

pub returns : goal.returns
returns g c =
    none_is _ _ _ _ _ c.loop-low.low c.loop-low.high (omega arith) c.loop-low.invariant.2
