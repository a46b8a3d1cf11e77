use Rattle.std.specs.Prelude.{ℕ, ◌*◌, ◌<◌, ◌≤◌, List, [], ◌∷◌}
use Rattle.planus_back.specs.Promises.{Promise}
use Rattle.planus_back.specs.Padding.{promise_of}

-- the constraints of such pairs
abbrev pub promises_of : List (ℕ × ℕ) → List Promise
promises_of [] = []
promises_of (pair ∷ pairs) = promise_of pair.0 pair.1 ∷ promises_of pairs

-- a common multiple of the alignments
abbrev pub period : List (ℕ × ℕ) → ℕ
period [] = 1
period (pair ∷ pairs) = pair.1 * period pairs

-- each alignment is above 0
abbrev pub AlignmentsAboveZero : List (ℕ × ℕ) → Type 0
AlignmentsAboveZero [] = Unit {0}
AlignmentsAboveZero (pair ∷ pairs) = (0 < pair.1) × AlignmentsAboveZero pairs

-- no distance is above the length
abbrev pub DistancesWithin : ℕ → List (ℕ × ℕ) → Type 0
DistancesWithin length [] = Unit {0}
DistancesWithin length (pair ∷ pairs) = (pair.0 ≤ length) × DistancesWithin length pairs
