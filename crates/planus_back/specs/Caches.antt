-- Caches as sets of distances.
use Rattle.std.specs.Prelude.{◌≡◌, ℕ, ◌<◌, List, length, slice_index, Option, Some}
use Rattle.std.specs.Prelude.{◌↔◌, ◌⊎◌, MatchOption}
use mathlib.Core.Logic.{◌≢◌}
use Rattle.planus_back.specs.CacheKeys.{key_at}
use Rattle.planus_back.specs.Buckets.{distances_at}
use Rattle.planus_back.specs.Numbers.{number_of}
use Rattle.planus_back.specs.declared.bucket.Bucket.{Bucket}

-- The last distance in each bucket and those before it, and the function from keys to buckets. Must
-- be read through `Has`, `Fits` and `IsBucketOf` alone.
pub record CacheView : Type 0 where
  pub choice : ℕ
  pub last : List (ℕ × ℕ)
  pub earlier : List (ℕ × List ℕ)

-- the bucket of a key
unfoldable pub IsBucketOf : CacheView → List ℕ → Bucket → Type 0
IsBucketOf held key bucket = bucket.number ≡ number_of held.choice key

abbrev pub bucket : CacheView → ℕ → List ℕ
bucket held number = distances_at held.last held.earlier number

unfoldable pub Has : CacheView → ℕ → Type 0
Has held distance = (number i : ℕ) × (i < length (bucket held number))
    × (slice_index (bucket held number) i ≡ distance)

-- At each distance is a key that belongs in the distance's bucket, by some function from keys to
-- buckets.
abbrev pub FitsBy : (List ℕ → ℕ) → (List ℕ → Option (List ℕ)) → CacheView → List ℕ → Type 0
FitsBy number_of_key key_in held bytes =
    (number i : ℕ) → i < length (bucket held number)
    → (key : List ℕ) × (key_at key_in bytes (slice_index (bucket held number) i) ≡ Some key)
    × (number_of_key key ≡ number)

-- the cache fits the bytes, by its own function
unfoldable pub Fits : (List ℕ → Option (List ℕ)) → CacheView → List ℕ → Type 0
Fits key_in held bytes = FitsBy (number_of held.choice) key_in held bytes

-- it has no distance
abbrev pub IsEmpty : CacheView → Type 0
IsEmpty held = (distance : ℕ) → ¬ Has held distance

-- the distances of before, and this one
abbrev pub Adds : CacheView → ℕ → CacheView → Type 0
Adds old distance new = (other : ℕ) → Has new other ↔ (Has old other ⊎ (other ≡ distance))

-- it fits all bytes that the cache before did and that have the key at the distance
abbrev pub FitsWhereKeyStands : (List ℕ → Option (List ℕ)) → CacheView → List ℕ → ℕ → CacheView
    → Type 0
FitsWhereKeyStands key_in old key distance new =
    (bytes : List ℕ) → Fits key_in old bytes → key_at key_in bytes distance ≡ Some key
    → Fits key_in new bytes

-- the same where the key there had this bucket
abbrev pub FitsWhereItsKeyStands : (List ℕ → Option (List ℕ)) → CacheView → Bucket → ℕ → CacheView
    → Type 0
FitsWhereItsKeyStands key_in old bucket distance new =
    (key : List ℕ) → IsBucketOf old key bucket → FitsWhereKeyStands key_in old key distance new

-- a distance of the set where the key is, or none if there is none
abbrev pub IsFound : (List ℕ → Option (List ℕ)) → CacheView → List ℕ → List ℕ → Option ℕ → Type 0
IsFound key_in held bytes key answer =
    MatchOption answer
    ((distance : ℕ) → Has held distance → key_at key_in bytes distance ≢ Some key)
    (λ distance. Has held distance × (key_at key_in bytes distance ≡ Some key))

-- an empty cache fits all bytes
abbrev pub EmptyFits : (List ℕ → Option (List ℕ)) → Type 0
EmptyFits key_in = (held : CacheView) (bytes : List ℕ) → IsEmpty held → Fits key_in held bytes
