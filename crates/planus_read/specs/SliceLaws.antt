-- Values of a buffer are encoded in its slices.
use Rattle.std.specs.Prelude.{ℕ, ◌+◌, ◌≤◌, List, length, drop}
use Rattle.planus_read.specs.Bytes.{position_of}
use Rattle.planus_read.specs.Values.{Value, Field}
use Rattle.planus_read.specs.Stands.{Position, Stands, ReferenceStands, FieldStands}
use Rattle.planus_read.specs.Moves.{moved}
use Rattle.planus_read.specs.Reading.{Leads}

-- A reference leads to the position of its distance.
abbrev pub ReferencesLead : Type 0
ReferencesLead =
    (B : List ℕ) (f distance : ℕ) → ReferenceStands B f distance
    → Leads B f (position_of B distance)

-- In a slice it leads to the same byte.
abbrev pub LeadsInSlices : Type 0
LeadsInSlices =
    (B : List ℕ) (start f k : ℕ) → Leads B (start + f) (start + k) → Leads (drop start B) f k

-- A field is encoded in a slice.
abbrev pub FieldsStandInSlices : Type 0
FieldsStandInSlices =
    (B : List ℕ) (start f : ℕ) (field : Field) → start ≤ length B → FieldStands B (start + f) field
    → FieldStands (drop start B) f field

-- A value is encoded in a slice.
abbrev pub StandsInSlices : Type 0
StandsInSlices =
    (B : List ℕ) (start : ℕ) (p : Position) (v : Value) → start ≤ length B
    → Stands B (moved start p) v
    → Stands (drop start B) p v
