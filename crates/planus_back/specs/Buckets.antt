-- What a cache does with the distances in its buckets.
use Rattle.std.specs.Prelude.{◌≡◌, ℕ, ◌<◌, ◌++◌, List, [], ◌∷◌, map, length, slice_index, Option}
use Rattle.std.specs.Prelude.{Some, MatchOption, nat_eq, cond, unwrap_or, option_to_list, Vec}
use Rattle.std.specs.Map.{lookup}
use Rattle.std.specs.declared.alloc.Global.{Global}
use mathlib.Core.Logic.{◌≢◌}
use Rattle.planus_back.specs.CacheKeys.{key_at}

abbrev pub lists_of : List (ℕ × Vec ℕ Global) → List (ℕ × List ℕ)
lists_of entries = map (λ entry. (entry.0, entry.1.items)) entries

abbrev pub listed_at : List (ℕ × List ℕ) → ℕ → List ℕ
listed_at lists number = unwrap_or (lookup (nat_eq number) lists) []

abbrev pub distances_at : List (ℕ × ℕ) → List (ℕ × List ℕ) → ℕ → List ℕ
distances_at last earlier number =
    listed_at earlier number ++ option_to_list (lookup (nat_eq number) last)

-- the distance is appended there
abbrev pub AddsAt : (ℕ → List ℕ) → ℕ → ℕ → (ℕ → List ℕ) → Type 0
AddsAt old number distance new =
    (other : ℕ) → new other ≡ cond (nat_eq number other) (old number ++ distance ∷ []) (old other)

-- a key is at each of the distances
abbrev pub AreKeys : (List ℕ → Option (List ℕ)) → List ℕ → List ℕ → Type 0
AreKeys key_in distances bytes =
    (i : ℕ) → i < length distances
    → (key : List ℕ) × (key_at key_in bytes (slice_index distances i) ≡ Some key)

-- one of the distances where the key is, or none if there is none
abbrev pub FoundAmong : (List ℕ → Option (List ℕ)) → List ℕ → List ℕ → List ℕ → Option ℕ → Type 0
FoundAmong key_in distances bytes key answer =
    MatchOption answer
    ((i : ℕ) → i < length distances → key_at key_in bytes (slice_index distances i) ≢ Some key)
    (λ distance. ((i : ℕ) × (i < length distances) × (slice_index distances i ≡ distance))
    × (key_at key_in bytes distance ≡ Some key))
