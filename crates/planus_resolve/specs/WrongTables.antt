-- Faults of tables.
use Rattle.std.specs.Prelude.{ℕ, ◌+◌, ◌-◌, Bool, false, ◌&&◌, ◌||◌, not, nat_le, codes}
use Rattle.std.specs.Prelude.{if◌then◌else◌, List, [], ◌∷◌, ◌++◌, length, map, Option, Some, None}
use Rattle.std.specs.Option.{option_map}
use Rattle.planus_syntax.specs.Values.{Name, kind_of, field_of, attribute_of, literal_of}
use Rattle.planus_syntax.specs.declared.value.Attribute.{Attribute}
use Rattle.planus_syntax.specs.declared.value.Field.{Field}
use Rattle.planus_syntax.specs.declared.value.Literal.{Literal}
use Rattle.planus_syntax.specs.declared.value.Record.{Record}
use Rattle.planus_schema.specs.declared.schema.FieldType.{FieldType}
use Rattle.planus_schema.specs.declared.schema.Base.TheVariants as base
use Rattle.planus_schema.specs.declared.scalar.Scalar.TheVariants as scalar
use Rattle.planus_schema.specs.Slots.{is_union, width, are_whole, slot_said}
use Rattle.planus_schema.specs.Distinct.{is_in}
use Rattle.planus_resolve.specs.declared.expected.Expected.TheVariants as expected
use Rattle.planus_resolve.specs.declared.fault.FaultKind.TheVariants as fault
use Rattle.planus_resolve.specs.Names.{HeadV, SpaceV, type_named, is_array, has, is_set}
use Rattle.planus_resolve.specs.Names.{attribute_named, table_in}
use Rattle.planus_resolve.specs.Tables.{has_ids, id_said, nested_name, table_found, is_required}
use Rattle.planus_resolve.specs.Tables.{names_for, is_number, may_be_key, is_bytes}
use Rattle.planus_resolve.specs.Defaults.{default_said}
use Rattle.planus_resolve.specs.Wrong.{Broken, when, first, wrong_kind}

-- ---- slots

abbrev pub slot_or : Option ℕ → ℕ
slot_or None = 0
slot_or (Some n) = n

abbrev pub field_slot : FieldType → Bool → ℕ → Field → ℕ
field_slot t ids next f = slot_or (slot_said (id_said (field_of f)) t ids next)

abbrev pub has_id : Field → Bool
has_id f = has (codes "id") (map attribute_of f.attributes.items)

-- a field after the slots below `next`, in a table with `ids` or without
abbrev pub wrong_slot : FieldType → Bool → ℕ → Field → Option Broken
wrong_slot t ids next f = when (not (is_set (slot_said (id_said (field_of f)) t ids next)))
    (if has_id f then fault.WrongId else fault.IdMissing) f.left

-- all slots of a table
abbrev pub wrong_slots : ℕ → List ℕ → Option Broken
wrong_slots left slots =
    first (when (not (nat_le (length slots) 32765)) fault.TooManySlots left)
    (when (not (are_whole slots)) fault.IdsWithGap left)

-- ---- fields

-- no value of the type, or none where zero is no value of the enum
abbrev pub wrong_default : List HeadV → FieldType → ℕ → Option Literal → Option Broken
wrong_default hs t left l = when (not (is_set (default_said hs t (option_map literal_of l))))
    (if is_set l then fault.WrongDefault else fault.UnknownValue) left

abbrev pub wrong_nested : List HeadV → SpaceV → Option Attribute → Option Broken
wrong_nested hs space None = None
wrong_nested hs space (Some a) =
    when (not (is_set (table_in (table_found hs space (nested_name (attribute_of a).value)))))
    fault.NestedIsNoTable a.label.left

-- which fields may be `required`, a `key` and a nested buffer
abbrev pub wrong_law : Bool → Bool → Bool → FieldType → ℕ → Option Broken
wrong_law required key nested t left =
    first (when (required && is_number t) fault.RequiredScalar left)
    (first (when (key && not (may_be_key t)) fault.WrongKey left)
    (when (nested && not (is_bytes t)) fault.WrongNested left))

-- a field of a known type
abbrev pub wrong_typed : List HeadV → SpaceV → Bool → ℕ → Field → Option FieldType
    → Option Broken
wrong_typed hs space ids next f None = None
wrong_typed hs space ids next f (Some t) =
    first (wrong_slot t ids next f) (first (wrong_default hs t f.left f.default)
    (first (wrong_nested hs space (attribute_named (codes "nested_flatbuffer") f.attributes.items))
    (wrong_law (is_required t (field_of f)) (has (codes "key") (field_of f).attributes)
    (has (codes "nested_flatbuffer") (field_of f).attributes) t f.left)))

-- an array, or a name that means no type
abbrev pub wrong_field_type : List HeadV → SpaceV → Field → Option Broken
wrong_field_type hs space f =
    first (when (is_array (kind_of f.kind)) fault.ArrayInTable f.left)
    (wrong_kind expected.AnyType hs space f.kind)

-- its type, slot and default, the nested buffer, and what it may be
abbrev pub wrong_field : List HeadV → SpaceV → Bool → ℕ → Field → Option Broken
wrong_field hs space ids next f = first (wrong_field_type hs space f)
    (wrong_typed hs space ids next f (type_named hs space (kind_of f.kind)))

abbrev pub field_type : List HeadV → SpaceV → Field → FieldType
field_type hs space f = type_or (type_named hs space (kind_of f.kind))
  where
    type_or : Option FieldType → FieldType
    type_or None = record { vector = false; base = base.Scalar scalar.Bool }
    type_or (Some t) = t

abbrev pub names_in : FieldType → Field → List Name
names_in t f = names_for t f.name.items

-- one of these names is taken, or is twice among them
abbrev pub are_among : List Name → List Name → Bool
are_among names [] = false
are_among names (w ∷ ws) = is_in names w || are_among (names ++ w ∷ []) ws

-- the fields after the slots below `next`, after a `key` or none, and after those of these names
abbrev pub wrong_fields : List HeadV → SpaceV → Bool → ℕ → Bool → List Name → List Field
    → Option Broken
wrong_fields hs space ids next key names [] = None
wrong_fields hs space ids next key names (f ∷ fs) =
    let t = field_type hs space f in
    let this = has (codes "key") (field_of f).attributes in
    first (when (not (nat_le next 65535)) fault.TooManySlots f.left)
    (first (wrong_field hs space ids next f)
    (first (when (are_among names (names_in t f)) fault.FieldNameTaken f.left)
    (first (when (this && key) fault.SecondKey f.left)
    (wrong_fields hs space ids (next + width t) (key || this) (names ++ names_in t f) fs))))

-- ---- the whole

abbrev pub slots_at : FieldType → ℕ → List ℕ
slots_at t n = if is_union t then (n - 1) ∷ n ∷ [] else n ∷ []

abbrev pub slots_from : List HeadV → SpaceV → Bool → ℕ → List Field → List ℕ
slots_from hs space ids next [] = []
slots_from hs space ids next (f ∷ fs) =
    let t = field_type hs space f in
    slots_at t (field_slot t ids next f) ++ slots_from hs space ids (next + width t) fs

-- the fields one by one, then all slots together; `left` is the place of the table's name
abbrev pub wrong_table_fields : List HeadV → SpaceV → ℕ → List Field → Option Broken
wrong_table_fields hs space left fs =
    let ids = has_ids (map field_of fs) in
    first (wrong_fields hs space ids 0 false [] fs)
    (wrong_slots left (slots_from hs space ids 0 fs))

abbrev pub wrong_table_body : List HeadV → SpaceV → Record → ℕ → Option Broken
wrong_table_body hs space r left = wrong_table_fields hs space left r.fields.items
