use Rattle.std.specs.Prelude.{ℕ, ◌+◌, ◌<◌, ◌≤◌, List}
use Rattle.planus_back.specs.Padding.{IsLeastPadding, greatest_place}
use Rattle.planus_back.specs.Promises.{Promise}

abbrev pub WithPadding : ℕ → ℕ → ℕ → List Promise → (ℕ → Type 0) → Type 0
WithPadding len size alignment promises Holds =
    (padding : ℕ) × IsLeastPadding len promises size alignment padding × Holds padding

abbrev pub IsWithinLimit : ℕ → ℕ → ℕ → List Promise → Type 0
IsWithinLimit len size alignment promises =
    WithPadding len size alignment promises (λ padding. len + padding + size ≤ greatest_place)

abbrev pub ExceedsLimit : ℕ → ℕ → ℕ → List Promise → Type 0
ExceedsLimit len size alignment promises =
    WithPadding len size alignment promises (λ padding. greatest_place < len + padding + size)

-- It isn't too large, but exceeds the room.
abbrev pub ExceedsRoom : ℕ → ℕ → ℕ → ℕ → List Promise → Type 0
ExceedsRoom len room size alignment promises =
    WithPadding len size alignment promises
    (λ padding. (len + padding + size ≤ greatest_place) × (room < padding + size))
