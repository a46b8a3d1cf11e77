-- What is remembered of the contents of one kind, to find equal ones.
use Rattle.std.specs.Prelude.{◌≡◌, ℕ, ◌<◌, ◌++◌, List, length, slice_index, Option, Some}
use Rattle.std.specs.Prelude.{MatchOption}
use Rattle.std.specs.Prelude.{◌↔◌, ◌⊎◌}
use mathlib.Core.Logic.{◌≢◌}
use Rattle.planus_back.specs.CacheKeys.{key_at}
use Rattle.planus_back.specs.Caches.{CacheView, Has, Fits}

-- The distances of few contents; or the view of the cache of many.
pub data Holding : Type 0 where
  few : List ℕ → Holding
  many : CacheView → Holding

-- how contents are found at the front of some bytes
abbrev pub FindContents : Type 0
FindContents = List ℕ → Option (List ℕ)

abbrev pub Holds : Holding → ℕ → Type 0
Holds (few distances) distance =
    (i : ℕ) × (i < length distances) × (slice_index distances i ≡ distance)
Holds (many held) distance = Has held distance

abbrev pub HoldsNothing : Holding → Type 0
HoldsNothing holding = (distance : ℕ) → ¬ Holds holding distance

abbrev pub HoldsMore : Holding → ℕ → Holding → Type 0
HoldsMore old distance new = (other : ℕ) → Holds new other ↔ (Holds old other ⊎ (other ≡ distance))

-- contents are encoded at each of its distances
abbrev pub HoldingFits : FindContents → Holding → List ℕ → Type 0
HoldingFits contents_in (few distances) bytes =
    (i : ℕ) → i < length distances
    → (contents : List ℕ) × (key_at contents_in bytes (slice_index distances i) ≡ Some contents)
HoldingFits contents_in (many held) bytes = Fits contents_in held bytes

-- it fits the bytes after a write that puts the contents at the distance
abbrev pub FitsInFront : FindContents → List ℕ → List ℕ → ℕ → Holding → Type 0
FitsInFront contents_in bytes contents distance holding =
    (front : List ℕ) → key_at contents_in (front ++ bytes) distance ≡ Some contents
    → HoldingFits contents_in holding (front ++ bytes)

-- the result of a lookup: a remembered distance of these contents, or none
abbrev pub FindsHeld : FindContents → Holding → List ℕ → List ℕ → Option ℕ → Type 0
FindsHeld contents_in holding bytes contents answer =
    MatchOption answer
    ((distance : ℕ) → Holds holding distance
    → key_at contents_in bytes distance ≢ Some contents)
    (λ distance. Holds holding distance × (key_at contents_in bytes distance ≡ Some contents))
