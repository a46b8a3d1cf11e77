-- Iterators over signed bytes, from both ends.
use Rattle.std.specs.Prelude.{◌≡◌, ℕ, ℤ, List, [], ◌∷◌, ◌++◌, Option, MatchOption}
use Rattle.std.specs.Int.{w8, cast_signed}
use Rattle.std.specs.Slice.Iter.{iter_rest}
use Rattle.planus_read.specs.declared.signed_items.SignedItems.{SignedItems}

-- the bytes left
abbrev pub bytes_left : SignedItems → List ℕ
bytes_left items = iter_rest items.bytes

-- takes the first byte left, or changes nothing
abbrev pub TakesFirst : SignedItems → Option ℤ → SignedItems → Type 0
TakesFirst s taken t = MatchOption taken ((bytes_left s ≡ []) × (t ≡ s))
    (λ number. (byte : ℕ) × (number ≡ cast_signed w8 byte) × (bytes_left s ≡ byte ∷ bytes_left t))

-- takes the last byte left
abbrev pub TakesLast : SignedItems → Option ℤ → SignedItems → Type 0
TakesLast s taken t = MatchOption taken ((bytes_left s ≡ []) × (t ≡ s))
    (λ number. (byte : ℕ) × (number ≡ cast_signed w8 byte)
    × (bytes_left s ≡ bytes_left t ++ byte ∷ []))
