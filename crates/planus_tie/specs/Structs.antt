-- The text of a struct.
use Rattle.std.specs.Prelude.{◌≡◌, ℕ, ◌+◌, ◌-◌, ◌==◌, nat_lt, Bool, true, false, List, [], ◌∷◌, ◌++◌}
use Rattle.std.specs.Prelude.{None, if◌then◌else◌}
use Rattle.std.specs.Bool.{MatchBool}
use Rattle.planus_schema.specs.declared.schema.Base.TheVariants as base
use Rattle.planus_schema.specs.declared.schema.Struct.{Struct}
use Rattle.planus_schema.specs.declared.schema.StructField.{StructField}
use Rattle.planus_tie.specs.Bare.{bare}
use Rattle.planus_tie.specs.FieldTexts.{fields_text, put_text, taken_text}
use Rattle.planus_tie.specs.Holes.{has_text}
use Rattle.planus_tie.specs.LongStructs.{AreInParts}
use Rattle.planus_tie.specs.Plains.{layout_text, read_text}
use Rattle.planus_tie.specs.declared.holes.Holes.{Holes}
use Rattle.planus_tie.specs.declared.naming.Naming.{Naming}

abbrev pub struct_holes : ℕ → Struct → Holes
struct_holes i one = record {
  index = i;
  place = 0;
  base = base.Struct i;
  number = record { negative = false; magnitude = 0 };
  size = one.size;
  alignment = one.alignment;
  count = None;
  padding = 0;
}

-- of a field before this offset
abbrev pub field_holes : ℕ → ℕ → ℕ → StructField → Holes
field_holes i place next f = record {
  index = i;
  place = place;
  base = f.base;
  number = record { negative = false; magnitude = f.distance };
  size = f.size;
  alignment = f.alignment;
  count = f.count;
  padding = next - f.distance - f.size;
}

-- the offset of the first field, or else this size
abbrev pub offset_of : ℕ → List StructField → ℕ
offset_of size [] = size
offset_of size (f ∷ fs) = f.distance

-- of the fields from a place on, in a struct of this size
abbrev pub fields_from : ℕ → ℕ → ℕ → List StructField → List Holes
fields_from i size place [] = []
fields_from i size place (f ∷ fs) =
    field_holes i place (offset_of size fs) f ∷ fields_from i size (place + 1) fs

abbrev pub struct_text : Naming → Holes → List Holes → List ℕ
struct_text n own fields = fields_text n own fields ++ (layout_text n own
    ++ (put_text n own fields ++ (read_text n own ++ taken_text n own fields)))

-- with its padding, if there is some
abbrev pub elements : Holes → ℕ
elements h = if h.padding == 0 then 1 else 2

-- there is no room for all fields with their padding
abbrev pub is_above : ℕ → List Holes → Bool
is_above room [] = false
is_above room (h ∷ hs) = if nat_lt room (elements h) then true else is_above (room - elements h) hs

-- The code of more is in parts, each a struct.
abbrev pub is_long : List Holes → Bool
is_long fields = is_above 12 fields

abbrev pub IsStructText : Naming → Holes → List Holes → List ℕ → Type 0
IsStructText n own fields text = MatchBool (is_long fields) (AreInParts n own fields text)
    (has_text text (struct_text n own fields) ≡ true)

-- The text has each field, the size and the alignment, and writes and reads each field at its offset,
-- in one or in parts.
abbrev pub IsStructTied : Naming → ℕ → Struct → List ℕ → Type 0
IsStructTied n i one text = IsStructText n (struct_holes i one)
    (fields_from i one.size 0 one.fields.items) (bare text)
