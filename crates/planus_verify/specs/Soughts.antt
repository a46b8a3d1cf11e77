-- What is searched for in a buffer: the last place of a trail.
use Rattle.std.specs.Prelude.{◌≡◌, ℕ, ◌+◌, ◌*◌, ◌<◌, ◌⊎◌, List, [], ◌∷◌, drop, Some}
use Rattle.planus_read.specs.Clauses.{AllHold}
use Rattle.planus_read.specs.Reading.{table_clauses, text_clauses, vector_clauses}
use Rattle.planus_read.specs.Reading.{items_at, count_at}
use Rattle.planus_read.specs.Tables.{Slot}
use Rattle.planus_verify.specs.Schemas.{Shapes, fields_of}
use Rattle.planus_verify.specs.Trails.{OfPlace}
use Rattle.planus_verify.specs.declared.fault.FieldPlace.{FieldPlace}
use Rattle.planus_verify.specs.declared.schema.FieldKind.{FieldKind}
use Rattle.planus_verify.specs.declared.schema.FieldKind.TheVariants as kind
use Rattle.planus_verify.specs.declared.schema.FieldShape.{FieldShape}
use Rattle.planus_verify.specs.declared.schema.ValueKind.{ValueKind}
use Rattle.planus_verify.specs.declared.schema.ValueKind.TheVariants as value
use Rattle.planus_verify.specs.declared.sought.Sought.{Sought}
use Rattle.planus_verify.specs.declared.sought.Sought.TheVariants as sought

-- the item at f of a vector of tables or strings can't be read
abbrev pub ItemFails : ValueKind → List ℕ → ℕ → Type 0
ItemFails (value.Tables t) S f = AllHold (table_clauses S f) → ⊥
ItemFails value.Texts S f = AllHold (text_clauses S f) → ⊥
ItemFails k S f = ⊥

-- Of n items it is the first.
abbrev pub FirstFails : ValueKind → List ℕ → ℕ → ℕ → Type 0
FirstFails k S n i =
    (i < n) × ItemFails k S (i * 4) × ((j : ℕ) → j < i → ItemFails k S (j * 4) → ⊥)

-- The reference at f leads to such a vector, whose first item begins there in the buffer.
abbrev pub VectorFails : ℕ → ValueKind → List ℕ → ℕ → ℕ → ℕ → Type 0
VectorFails begin k S start f i =
    AllHold (vector_clauses S f 4) × (start + items_at S f ≡ begin)
    × FirstFails k (drop (items_at S f) S) (count_at S f) i

abbrev pub KindFails : ℕ → FieldKind → List ℕ → ℕ → ℕ → ℕ → Type 0
KindFails begin (kind.Value k) S start f i = VectorFails begin k S start f i
KindFails begin (kind.Union u) S start f i = ⊥
KindFails begin (kind.Unions u) S start f i = ⊥

abbrev pub item_place : ℕ → ℕ → FieldShape → ℕ → FieldPlace
item_place t start field i =
    record { table = t; start = start; slot = field.slot; item = Some i }

-- the first item that fails of a field of the table t
abbrev pub FieldEnds : ℕ → ℕ → List ℕ → List ℕ → ℕ → FieldShape → FieldPlace → Type 0
FieldEnds begin t S V start field last =
    (i : ℕ) × (last ≡ item_place t start field i) × (Slot V field.slot ≡ 0 → ⊥)
    × KindFails begin field.kind S start (Slot V field.slot) i

abbrev pub FieldsEnd : ℕ → ℕ → List ℕ → List ℕ → ℕ → List FieldShape → FieldPlace → Type 0
FieldsEnd begin t S V start [] last = ⊥
FieldsEnd begin t S V start (field ∷ fields) last =
    FieldEnds begin t S V start field last ⊎ FieldsEnd begin t S V start fields last

-- the last place of a trail, and the table that it is of
abbrev pub ends_of : Shapes → Sought → OfPlace
ends_of schema (sought.Field place) last t S V start =
    (last ≡ place) × (place.table ≡ t) × (place.start ≡ start)
ends_of schema (sought.Item begin) last t S V start =
    FieldsEnd begin t S V start (fields_of schema t) last
