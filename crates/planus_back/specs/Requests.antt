-- Requests for one part.
use Rattle.std.specs.Prelude.{◌≡◌, ℕ, ◌+◌, ◌*◌, ◌<◌, ◌↔◌, List}
use Rattle.planus_back.specs.Promises.{Promise, Keeps}
use Rattle.planus_back.specs.Padding.{greatest_place, promise_of}
use Rattle.planus_back.specs.Descriptions.{Describes}

-- A remainder and a mask describe a set of lengths.
pub record Delay : Type 0 where
  pub delayed : ℕ
  pub mask : ℕ

-- The finished length is one of those described at n bytes.
abbrev pub IsDescribed : Delay → ℕ → ℕ → Type 0
IsDescribed delay length finished = (k : ℕ)
    × (finished ≡ length + delay.delayed + k * (delay.mask + 1))

-- some described length holds the part, and aligns it
abbrev pub LeavesSome : Delay → ℕ → ℕ → ℕ → ℕ → Type 0
LeavesSome delay length size alignment padding =
    (finished : ℕ) × IsDescribed delay length finished
    × Keeps finished (promise_of (length + padding + size) alignment)

-- exactly the lengths that hold the part and align it are described afterwards
abbrev pub DescribesThose : Delay → ℕ → Delay → ℕ → ℕ → Type 0
DescribesThose before length after place alignment =
    (finished : ℕ) → IsDescribed after place finished
    ↔ (IsDescribed before length finished × Keeps finished (promise_of place alignment))

-- this describes all of these constraints
abbrev pub DescribesAll : Delay → ℕ → List Promise → Type 0
DescribesAll delay length promises = Describes length delay.delayed delay.mask promises

-- with the least padding the part passes the greatest place
abbrev pub PassesGreatestPlace : (ℕ → Type 0) → ℕ → ℕ → Type 0
PassesGreatestPlace IsPadding length size = (padding : ℕ) × IsPadding padding
    × (greatest_place < length + padding + size)
