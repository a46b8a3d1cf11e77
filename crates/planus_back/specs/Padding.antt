-- The least padding before what is written. A place is the distance from the end to a part's first
-- byte; the last byte has distance 1.
use Rattle.std.specs.Prelude.{ℕ, ◌+◌, ◌≤◌, List, ◌∷◌}
use Rattle.planus_back.specs.Promises.{Promise, CanBeKept}

-- the greatest signed number of 4 bytes
abbrev pub greatest_place : ℕ
greatest_place = 2147483647

-- the part is aligned at its place
abbrev pub promise_of : ℕ → ℕ → Promise
promise_of place alignment = record { distance = place; alignment = alignment }

-- With this padding after n bytes, some length keeps the constraints so far and the part's.
abbrev pub CanPad : ℕ → List Promise → ℕ → ℕ → ℕ → Type 0
CanPad length promises size alignment padding =
    CanBeKept (promise_of (length + padding + size) alignment ∷ promises)

-- the least number for which a fact holds
pub record IsLeast (Holds : ℕ → Type 0) (n : ℕ) : Type 0 where
  pub holds : Holds n
  pub least : (m : ℕ) → Holds m → n ≤ m

-- with this padding and no smaller one
abbrev pub IsLeastPadding : ℕ → List Promise → ℕ → ℕ → ℕ → Type 0
IsLeastPadding length promises size alignment padding =
    IsLeast (CanPad length promises size alignment) padding
