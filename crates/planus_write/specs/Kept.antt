use Rattle.std.specs.Prelude.{ℕ, ◌-◌, ◌≤◌, List, ◌++◌, length, Option, Some, None, ⊤}
use Rattle.std.specs.List.{AllByRecursion}
use Rattle.std.specs.Int.{◌∣◌}
use Rattle.planus_back.specs.Promises.{Keep}
use Rattle.planus_read.specs.Bytes.{BytesStand, position_of}
use Rattle.planus_read.specs.Values.{Value, text, byte_list}
use Rattle.planus_read.specs.Stands.{Stands}
use Rattle.planus_read.specs.Moves.{moved}
use Rattle.planus_read.specs.Aligned.{AlignedAt}
use Rattle.planus_write.specs.Shared.{ContentsKind, texts, byte_lists, vtables, Cached}
use Rattle.planus_write.specs.History.{History}
use Rattle.planus_write.specs.Parts.{Named, position_in}

abbrev pub TagsReached : ℕ → Option ℕ → Type 0
TagsReached length None = ⊤
TagsReached length (Some tags) = tags ≤ length

-- The value is encoded at its distances, and aligned in all bytes that end in this and whose length
-- keeps the constraints.
pub record IsKept (history : History) (value : Value) (named : Named) : Type 0 where
  pub reached : named.distance ≤ length history.written.bytes
  pub tags_reached : TagsReached (length history.written.bytes) named.tags
  pub stands : Stands history.written.bytes (position_in history.written.bytes named) value
  pub aligned : (front : List ℕ)
      → Keep history.written.promises (length (front ++ history.written.bytes))
      → AlignedAt (front ++ history.written.bytes)
      (moved (length front) (position_in history.written.bytes named)) value

-- Cached contents are stored at the distance; a vtable's at a multiple of 2.
abbrev pub KindIsKept : History → ContentsKind → List ℕ → ℕ → Type 0
KindIsKept history texts bytes distance =
    IsKept history (text bytes) (record { distance = distance; tags = None })
KindIsKept history byte_lists bytes distance =
    IsKept history (byte_list bytes) (record { distance = distance; tags = None })
KindIsKept history vtables bytes distance =
    (distance ≤ length history.written.bytes)
    × BytesStand history.written.bytes (position_of history.written.bytes distance) bytes
    × ((L : ℕ) → Keep history.written.promises L → 2 ∣ (L - distance))

abbrev pub CachedIsKept : History → Cached → Type 0
CachedIsKept history cached = KindIsKept history cached.contents.kind cached.contents.bytes
    cached.distance

abbrev pub AllCachedKept : History → Type 0
AllCachedKept history = AllByRecursion (CachedIsKept history) history.cached
