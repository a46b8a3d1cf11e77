-- Alignment constraints, here called promises. The format: a number is at a multiple of its size
-- from the buffer's start. A writer from the back doesn't know the start until the end.
use Rattle.std.specs.Prelude.{◌≡◌, ℕ, ◌-◌, ◌^◌, ◌≤◌, max, List, [], ◌∷◌}
use Rattle.std.specs.Int.{◌∣◌}
use Rattle.std.specs.List.{AllByRecursion}

-- The byte at this distance from the end is to be at a multiple of the alignment from the start.
pub record Promise : Type 0 where
  pub distance : ℕ
  pub alignment : ℕ

-- as each alignment must be
abbrev pub IsPowerOfTwo : ℕ → Type 0
IsPowerOfTwo a = (k : ℕ) × (a ≡ 2 ^ k)

-- The length reaches the distance, and the alignment divides the number of bytes before it.
pub record Keeps (length : ℕ) (promise : Promise) : Type 0 where
  pub reaches : promise.distance ≤ length
  pub aligns : promise.alignment ∣ (length - promise.distance)

-- the set of lengths that keep every constraint
abbrev pub Keep : List Promise → ℕ → Type 0
Keep promises length = AllByRecursion (Keeps length) promises

abbrev pub CanBeKept : List Promise → Type 0
CanBeKept promises = (length : ℕ) × Keep promises length

-- the greatest of a number and every alignment
abbrev pub greatest_alignment : ℕ → List Promise → ℕ
greatest_alignment least [] = least
greatest_alignment least (promise ∷ promises) =
    max promise.alignment (greatest_alignment least promises)
