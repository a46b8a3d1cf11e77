-- Slices of a buffer, and where they start.
use Rattle.std.specs.Borrow.{Bor}
use Rattle.std.specs.Prelude.{◌≡◌, ℕ, ◌+◌, ◌≤◌, List, length, take, drop}
use Rattle.planus_read.specs.declared.slice_helpers.SliceWithStartOffset.{SliceWithStartOffset}
use Rattle.planus_read.specs.declared.slice_helpers.ArrayWithStartOffset.{ArrayWithStartOffset}

-- the bytes of a slice
abbrev pub slice_bytes : SliceWithStartOffset → List ℕ
slice_bytes s = s.buffer.now

abbrev pub slice_start : SliceWithStartOffset → ℕ
slice_start s = s.offset_from_start

-- the bytes of an array
abbrev pub array_bytes : {N : ℕ} → ArrayWithStartOffset N → List ℕ
array_bytes s = s.buffer.now

abbrev pub array_start : {N : ℕ} → ArrayWithStartOffset N → ℕ
array_start s = s.offset_from_start

-- the slice is s from this number of bytes on
pub record IsAdvanced
    (s : SliceWithStartOffset) (amount : ℕ) (slice : SliceWithStartOffset) : Type 0 where
  pub inside : amount ≤ length (slice_bytes s)
  pub bytes : slice_bytes slice ≡ drop amount (slice_bytes s)
  pub start : slice_start slice ≡ slice_start s + amount

-- the N bytes at this offset
pub record IsArrayAt
    {N : ℕ} (bytes : List ℕ) (start amount : ℕ) (array : ArrayWithStartOffset N) : Type 0 where
  pub inside : amount + N ≤ length bytes
  pub items : array_bytes array ≡ take N (drop amount bytes)
  pub begin : array_start array ≡ start + amount

-- the string, or the slice, has these bytes
abbrev pub ShowsBytes : List ℕ → Bor (List ℕ) → Type 0
ShowsBytes bytes lent = lent.now ≡ bytes
