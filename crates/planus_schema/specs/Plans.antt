-- The order in which a table's fields are written, and its vtable's size.
use Rattle.std.specs.Prelude.{◌≡◌, ℕ, ◌+◌, ◌-◌, ◌*◌, List, [], ◌∷◌, map, length, Option, Some}
use Rattle.std.specs.Prelude.{None, if◌then◌else◌, Bool, true, false, ◌||◌}
use Rattle.std.specs.List.Sorted.{IsPermutation, IsNonDecreasingBy}
use Rattle.planus_schema.specs.Layouts.{measure_in, body_in}
use Rattle.planus_schema.specs.Slots.{slots_taken, AreSlots}
use Rattle.planus_schema.specs.declared.measure.Measure.{Measure}
use Rattle.planus_schema.specs.declared.schema.Base.{Base}
use Rattle.planus_schema.specs.declared.schema.Base.TheVariants as base
use Rattle.planus_schema.specs.declared.schema.Declared.{Declared}
use Rattle.planus_schema.specs.declared.schema.FieldType.{FieldType}
use Rattle.planus_schema.specs.declared.schema.TableField.{TableField}
use Rattle.planus_schema.specs.declared.plan.Line.{Line}
use Rattle.planus_schema.specs.declared.plan.Plan.{Plan}

-- 4 for what is written by a reference
abbrev pub alignment_or : Option Measure → ℕ
alignment_or None = 4
alignment_or (Some m) = m.alignment

abbrev pub alignment_of : List Declared → FieldType → ℕ
alignment_of ds kind =
    if kind.vector then 4 else alignment_or (measure_in (map body_in ds) kind.base)

pub record LineV : Type 0 where
  pub table : ℕ
  pub place : ℕ
  pub field : TableField
  pub alignment : ℕ

abbrev pub line_of : Line → LineV
line_of l = record {
  table = l.table;
  place = l.place;
  field = l.field.now;
  alignment = l.alignment;
}

-- the fields that aren't deprecated, from a place on
abbrev pub lines_from : List Declared → ℕ → ℕ → List TableField → List LineV
lines_from ds table place [] = []
lines_from ds table place (f ∷ fs) = if f.deprecated then lines_from ds table (place + 1) fs
    else record {
      table = table;
      place = place;
      field = f;
      alignment = alignment_of ds f.kind;
    } ∷ lines_from ds table (place + 1) fs

abbrev pub Falls : List Line → Type 0
Falls lines = IsNonDecreasingBy (λ l. 18446744073709551615 - l.alignment) lines

-- each field that isn't deprecated once, by falling alignment; a vtable with room for each slot
pub record IsPlan (ds : List Declared) (table : ℕ) (fields : List TableField) (p : Plan) : Type 0
  where
    pub table_is : p.table ≡ table
    pub lines : map line_of p.lines.items ≡ lines_from ds table 0 fields
    pub once : IsPermutation p.lines.items p.order.items
    pub falls : Falls p.order.items
    pub size : AreSlots (slots_taken fields) → p.vtable_size ≡ 4 + 2 * length (slots_taken fields)

abbrev pub is_text : Base → Bool
is_text base.Text = true
is_text _ = false

-- a vector or a string
abbrev pub is_borrowed : FieldType → Bool
is_borrowed kind = kind.vector || is_text kind.base
