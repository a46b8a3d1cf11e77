-- Schemas by which a dump shows the same of any bytes, but for what only one of them reads.
use Rattle.std.specs.Prelude.{◌≡◌, ◌⊎◌, ℕ, ◌&&◌, not, List, [], ◌∷◌, map, Bool, true, false}
use Rattle.std.specs.Prelude.{Option, Some, None, if◌then◌else◌}
use Rattle.planus_dump.specs.Dumped.{events_of}
use Rattle.planus_dump.specs.declared.schemas.Schema as dump
use Rattle.planus_dump.specs.Shapes.{TableShape, StructShape, HasShapes}
use Rattle.planus_inspect.specs.Shown.{shown_name, field_shown, field_in_struct, size_shown}
use Rattle.planus_inspect.specs.Shown.{union_shown, enum_shown, Shows}
use Rattle.planus_schema.specs.declared.number.Number.{Number}
use Rattle.planus_schema.specs.declared.schema.Body.{Body}
use Rattle.planus_schema.specs.declared.schema.Body.TheVariants as body
use Rattle.planus_schema.specs.declared.schema.Declared.{Declared}
use Rattle.planus_schema.specs.declared.schema.EnumValue.{EnumValue}
use Rattle.planus_schema.specs.declared.schema.Schema.{Schema}
use Rattle.planus_schema.specs.declared.schema.StructField.{StructField}
use Rattle.planus_schema.specs.declared.schema.TableField.{TableField}
use Rattle.planus_schema.specs.declared.schema.UnionMember.{UnionMember}
use Rattle.planus_resolve.specs.Sound.{IsSound}
use Rattle.planus_conform.specs.declared.breaks.Way.TheVariants as way
use Rattle.planus_conform.specs.Values.{body_at, fields_in, struct_in}
use Rattle.planus_conform.specs.Reads.{field_in, part_in, parts_of}
use Rattle.planus_conform.specs.Matching.{named, matches_of, Matches}
use Rattle.planus_conform.specs.Breaks.{body_if, breaks_of}
use Rattle.planus_conform.specs.NoBreaks.{are_filled}

-- ---- what both schemas read

-- both schemas open the bytes as a buffer, or neither does
abbrev pub is_opened_alike : Option ℕ → Option ℕ → Bool
is_opened_alike None None = true
is_opened_alike (Some i) (Some j) = true
is_opened_alike a b = false

-- the other schema's code reads its field in this slot, as bytes or as a buffer like this one's
abbrev pub is_read_too : TableField → Option TableField → Bool
is_read_too f None = false
is_read_too f (Some g) = not g.deprecated && is_opened_alike f.nested g.nested

-- code of both schemas reads the field; `gs`: the other schema's
abbrev pub is_shared : List TableField → TableField → Bool
is_shared gs f = not f.deprecated && is_read_too f (field_in gs f.slot)

abbrev pub shared_fields : List TableField → List TableField → List TableField
shared_fields gs [] = []
shared_fields gs (f ∷ fs) =
    if is_shared gs f then f ∷ shared_fields gs fs else shared_fields gs fs

-- the other struct has a field at this distance
abbrev pub is_part : Option StructField → Bool
is_part None = false
is_part (Some g) = true

abbrev pub shared_parts : List StructField → List StructField → List StructField
shared_parts gs [] = []
shared_parts gs (f ∷ fs) =
    if is_part (part_in gs f.distance) then f ∷ shared_parts gs fs else shared_parts gs fs

-- the body of the declaration of the same name in the other schema
abbrev pub other_body : List Declared → Declared → Option Body
other_body others d = body_if others (named others d.name.items)

-- a table's shared fields
abbrev pub shared_in : Option Body → Body → List TableField
shared_in o b = shared_fields (fields_in o) (fields_in (Some b))

-- a struct's shared fields
abbrev pub shared_parts_in : Option Body → Body → List StructField
shared_parts_in o b = shared_parts (parts_of (struct_in o)) (parts_of (struct_in (Some b)))

abbrev pub table_shared : List Declared → Declared → TableShape
table_shared others d = record {
  name = shown_name d.name.items;
  fields = map field_shown (shared_in (other_body others d) d.body);
}

abbrev pub struct_shared : List Declared → Declared → StructShape
struct_shared others d = record {
  name = shown_name d.name.items;
  size = size_shown d.body;
  fields = map field_in_struct (shared_parts_in (other_body others d) d.body);
}

-- With this a dump reads what the schema means, from the table of this index on, but for the fields
-- that the other schema's code doesn't read.
abbrev pub ShowsShared : Schema → Schema → ℕ → dump.Schema → Type 0
ShowsShared schema other root shown =
    HasShapes shown
    (map (table_shared other.declarations.items) schema.declarations.items)
    (map union_shown schema.declarations.items) (map enum_shown schema.declarations.items)
    (map (struct_shared other.declarations.items) schema.declarations.items) root

-- ---- names

abbrev pub field_label : TableField → ℕ × List ℕ
field_label f = (f.slot, f.name.items)

abbrev pub part_label : StructField → ℕ × List ℕ
part_label f = (f.distance, f.name.items)

abbrev pub value_label : EnumValue → Number × List ℕ
value_label v = (v.number, v.name.items)

abbrev pub member_label : UnionMember → ℕ × List ℕ
member_label a = (a.tag, a.name.items)

-- the same slots, distances, numbers or tags in the same order, with the same names
abbrev pub IsLabelledAlike : Body → Body → Type 0
IsLabelledAlike (body.Table t) (body.Table u) =
    map field_label (shared_fields u.fields.items t.fields.items)
    ≡ map field_label (shared_fields t.fields.items u.fields.items)
IsLabelledAlike (body.Struct s) (body.Struct t) =
    map part_label (shared_parts t.fields.items s.fields.items)
    ≡ map part_label (shared_parts s.fields.items t.fields.items)
IsLabelledAlike (body.Enum e) (body.Enum g) =
    map value_label e.values.items ≡ map value_label g.values.items
IsLabelledAlike (body.Union u) (body.Union v) =
    map member_label u.members.items ≡ map member_label v.members.items
IsLabelledAlike b c = Unit {0}

-- so each two declarations that belong together
abbrev pub AreLabelledAlike : List (Option ℕ) → List Declared → List Declared → Type 0
AreLabelledAlike m old new =
    (i j : ℕ) → Matches m i j → (b c : Body) → body_at old i ≡ Some b → body_at new j ≡ Some c
    → IsLabelledAlike b c

-- ---- dumps

-- all of these in this order, perhaps with others between
abbrev pub AreAmong : {A : Type 0} → List A → List A → Type 0
AreAmong [] all = Unit {0}
AreAmong (x ∷ xs) [] = ⊥
AreAmong (x ∷ xs) (y ∷ ys) = ((x ≡ y) × AreAmong xs ys) ⊎ AreAmong (x ∷ xs) ys

-- A dump by a schema shows all that it shows without the fields that another schema's code doesn't
-- read.
abbrev pub SharedLinesAreShown : Type 0
SharedLinesAreShown =
    (schema other : Schema) (i : ℕ) (all less : dump.Schema) → Shows schema i all
    → ShowsShared schema other i less → (bytes : List ℕ)
    → AreAmong (events_of less bytes) (events_of all bytes)

-- Where nothing breaks and what both schemas' code reads has one name, a dump shows the same of any
-- bytes by both schemas without the fields that the other schema's code doesn't read.
abbrev pub SharedFieldsShowAlike : Type 0
SharedFieldsShowAlike =
    (old new : Schema) → IsSound old → IsSound new → are_filled new ≡ true
    → breaks_of way.Both [] old new ≡ []
    → AreLabelledAlike (matches_of [] old.declarations.items new.declarations.items)
    old.declarations.items new.declarations.items
    → (i j : ℕ) → Matches (matches_of [] old.declarations.items new.declarations.items) i j
    → (by_old by_new : dump.Schema) → ShowsShared old new i by_old → ShowsShared new old j by_new
    → (bytes : List ℕ) → events_of by_old bytes ≡ events_of by_new bytes
