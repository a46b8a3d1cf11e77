-- Values of a fixed layout that stand by themselves, to which a reference leads: the structs of
-- unions.
use Rattle.std.specs.Prelude.{◌≡◌, ℕ, ◌+◌, List, drop}
use Rattle.planus_read.specs.declared.slice_helpers.SliceWithStartOffset.{SliceWithStartOffset}
use Rattle.planus_read.specs.Clauses.{Answer, shown}
use Rattle.planus_read.specs.Reading.{plain_ref_reading}
use Rattle.planus_read.specs.Slices.{slice_bytes, slice_start}
use Rattle.planus_read.specs.Tables.{Reads}
use Rattle.planus_view.specs.declared.plain_ref.PlainRef.{PlainRef}

-- the rest of S from the position on
pub record ShowsPlainRef (S : List ℕ) (start position : ℕ) (slice : SliceWithStartOffset)
    : Type 0 where
  pub bytes : slice_bytes slice ≡ drop position S
  pub begin : slice_start slice ≡ start + position

-- what a view holds: the slice from the value's first byte on
abbrev pub plain_slice : {T : _} {kind : _} → PlainRef T kind → SliceWithStartOffset
plain_slice view = view.bytes

-- the results of the read of a value of this size, by the bytes from its first one on
abbrev pub reads_plain_ref : {V : Type 0} → (V → SliceWithStartOffset) → ℕ → Reads V
reads_plain_ref bytes_of size S start f r =
    Answer (shown (λ position view. ShowsPlainRef S start position (bytes_of view))
    (plain_ref_reading size S f)) r
