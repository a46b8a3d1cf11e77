-- What calls store of strings and vectors lies in the buffer.
use Rattle.std.specs.Prelude.{◌≡◌, ℕ, ◌+◌, ◌*◌, ◌≤◌, List, length}
use Rattle.planus_read.specs.declared.plain.Plain.{Ghosts as PlainGhosts}
use Rattle.planus_view.specs.declared.vector.SliceView.{SliceView}
use Rattle.planus_view.specs.declared.vector_of.VectorOf.{VectorOf}
use Rattle.planus.specs.Accessors.{FieldKind, IsField, IsRequired}
use Rattle.planus_foreign.specs.Calls.{Reads, ReadsThere, IsSame, Value, ValueIf}
use Rattle.planus_foreign.specs.Places.{IsTextSpanField, IsTextSpanRequired, IsTextAt, Items, ItemsIf}
use Rattle.planus_foreign.specs.Statuses.{fine}
use Rattle.planus_foreign.specs.declared.span.Span.{Span}

-- so many items of this size, from the span's position on, end within the buffer
abbrev pub EndsIn : List ℕ → ℕ → Span → Type 0
EndsIn buffer size span = span.at + span.len * size ≤ length buffer

-- A call for a string's field that answers 0 has stored a span in the buffer.
abbrev pub StringsLieInside : Type 0
StringsLieInside =
    (buffer : List ℕ) (position slot : ℕ) (type_ method : List ℕ) (old new : Span)
    → (Reads (λ t. IsTextSpanField t slot type_ method) ValueIf buffer position old new fine
    → EndsIn buffer 1 new)
    × (Reads (λ t. IsTextSpanRequired t slot type_ method) Value buffer position old new fine
    → EndsIn buffer 1 new)

-- So has one for the string at a position.
abbrev pub StringsThereLieInside : Type 0
StringsThereLieInside =
    (buffer : List ℕ) (position : ℕ) (old new : Span)
    → ReadsThere IsTextAt IsSame buffer position old new fine → EndsIn buffer 1 new

-- So has one for the field of a vector of this kind: its items end within the buffer.
abbrev pub VectorsLieInside :
    {X G T R : Type 0} {kind : PlainGhosts R} → FieldKind X G (VectorOf (SliceView T R kind)) → Type 0
VectorsLieInside {kind = kind} field =
    (buffer : List ℕ) (position slot : ℕ) (type_ method : List ℕ) (old new : Span)
    → (Reads (λ t. IsField field t slot type_ method) ItemsIf buffer position old new fine
    → EndsIn buffer kind.SIZE new)
    × (Reads (λ t. IsRequired field t slot type_ method) Items buffer position old new fine
    → EndsIn buffer kind.SIZE new)
