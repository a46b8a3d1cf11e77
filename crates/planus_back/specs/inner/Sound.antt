use Rattle.std.specs.Prelude.{◌+◌, ◌≤◌, ◌^◌}
use Rattle.planus_back.specs.Promises.{IsPowerOfTwo}
use Rattle.planus_back.specs.Requests.{Delay}

pub record IsSound (delay : Delay) : Type 0 where
  pub power : IsPowerOfTwo (delay.mask + 1)
  pub bound : delay.mask + 1 ≤ 2 ^ 30
  pub rest : delay.delayed ≤ delay.mask
