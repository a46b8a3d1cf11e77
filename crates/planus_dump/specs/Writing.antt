-- What was written where writing may fail.
use Rattle.std.specs.Prelude.{◌≡◌, ℕ, List, ◌++◌, Option}
use Rattle.std.specs.Io.KnownBytes.{Appends}

-- some of the bytes were written, and these are left
abbrev pub Leaves : List ℕ → List ℕ → Option (List ℕ) → Option (List ℕ) → Type 0
Leaves bytes rest before after =
    (written : List ℕ) × (bytes ≡ written ++ rest) × Appends before after written

-- a beginning of these bytes was written, and nothing else
abbrev pub WritesBeginning : List ℕ → Option (List ℕ) → Option (List ℕ) → Type 0
WritesBeginning bytes before after = (written : List ℕ) × (rest : List ℕ)
    × (bytes ≡ written ++ rest) × Appends before after written
