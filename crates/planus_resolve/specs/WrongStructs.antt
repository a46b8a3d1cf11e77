-- Faults of structs.
use Rattle.std.specs.Prelude.{ℕ, ◌+◌, ◌*◌, ◌-◌, max, Bool, true, false, ◌&&◌, ◌||◌, not, nat_le, nat_lt}
use Rattle.std.specs.Prelude.{codes}
use Rattle.std.specs.Prelude.{if◌then◌else◌, List, [], ◌∷◌, ◌++◌, map, Option, Some, None}
use Rattle.std.specs.Prelude.{slice_get}
use Rattle.std.specs.Option.{option_map}
use Rattle.planus_syntax.specs.Values.{Name, kind_of, attribute_of, literal_of}
use Rattle.planus_syntax.specs.declared.value.Attribute.{Attribute}
use Rattle.planus_syntax.specs.declared.value.Field.{Field}
use Rattle.planus_syntax.specs.declared.value.Kind.{Kind}
use Rattle.planus_syntax.specs.declared.value.Kind.TheVariants as kind
use Rattle.planus_syntax.specs.declared.value.Record.{Record}
use Rattle.planus_schema.specs.declared.schema.Base.{Base}
use Rattle.planus_schema.specs.declared.schema.Base.TheVariants as base
use Rattle.planus_schema.specs.declared.schema.Declared.{Declared}
use Rattle.planus_schema.specs.declared.schema.FieldType.{FieldType}
use Rattle.planus_schema.specs.declared.measure.Measure.{Measure}
use Rattle.planus_schema.specs.Numbers.{scalar_size, integer_said}
use Rattle.planus_schema.specs.Distinct.{is_in}
use Rattle.planus_schema.specs.Layouts.{next_multiple, is_alignment, measure_of_body}
use Rattle.planus_resolve.specs.declared.expected.Expected.TheVariants as expected
use Rattle.planus_resolve.specs.declared.fault.FaultKind.TheVariants as fault
use Rattle.planus_resolve.specs.Names.{HeadV, SpaceV, type_named, has, setting, attribute_named}
use Rattle.planus_resolve.specs.Names.{is_set}
use Rattle.planus_resolve.specs.Structs.{number_in, alignment_said, is_zero_default}
use Rattle.planus_resolve.specs.Structs.{natural_of, count_in, count_said, items_in}
use Rattle.planus_resolve.specs.Tables.{at_most}
use Rattle.planus_resolve.specs.Wrong.{Broken, broken, when, first, wrong_kind}

-- ---- fields

-- `None` where the declaration can't be in a struct
abbrev pub measured : Option (Option Measure) → Option Measure
measured None = None
measured (Some m) = m

abbrev pub measures_of : List Declared → List (Option Measure)
measures_of ds = map (λ d. measure_of_body (Some d.body)) ds

-- the size of a value, by the sizes of the declarations before
abbrev pub measure_among : List (Option Measure) → Base → Option Measure
measure_among ms (base.Scalar s) =
    Some (record { size = scalar_size s; alignment = scalar_size s })
measure_among ms base.Text = None
measure_among ms (base.Enum i) = measured (slice_get ms i)
measure_among ms (base.Struct i) = measured (slice_get ms i)
measure_among ms (base.Table i) = None
measure_among ms (base.Union i) = None

abbrev pub is_declared_later : Base → Bool
is_declared_later (base.Scalar s) = false
is_declared_later base.Text = false
is_declared_later (base.Enum i) = true
is_declared_later (base.Struct i) = true
is_declared_later (base.Table i) = false
is_declared_later (base.Union i) = false

abbrev pub has_room : Measure → Bool
has_room m = nat_lt 0 m.alignment && nat_le m.alignment 32 && nat_le m.size 65535

-- a type without a size, or too large
abbrev pub wrong_measure : Base → ℕ → Option Measure → Option Broken
wrong_measure b left None =
    broken (if is_declared_later b then fault.DeclaredLater else fault.NoStructField) left
wrong_measure b left (Some m) = when (not (has_room m)) fault.StructTooLarge left

-- where a field of this size and alignment ends
abbrev pub end_of : ℕ → Option Measure → ℕ
end_of at None = at
end_of at (Some m) = next_multiple m.alignment at + m.size

-- no vector, and without a default or with zero
abbrev pub wrong_single : List HeadV → Field → Option FieldType → Option Broken
wrong_single hs f None = None
wrong_single hs f (Some t) = first (when t.vector fault.NoStructField f.left)
    (when (not (is_zero_default hs t (option_map literal_of f.default))) fault.DefaultInStruct
    f.left)

-- its attributes, its type and its default; the struct is the last declaration that begins before it
abbrev pub wrong_plain : List HeadV → SpaceV → Field → Option Broken
wrong_plain hs space f =
    let set = map attribute_of f.attributes.items in
    first (when (has (codes "required") set || has (codes "deprecated") set)
    fault.AttributeInStruct f.left)
    (first (wrong_kind (expected.InStruct (space.begun - 1)) hs space f.kind)
    (wrong_single hs f (type_named hs space (kind_of f.kind))))

-- an array with a wrong number of items, with a default, or as a key
abbrev pub wrong_array : Field → Kind → Option Broken
wrong_array f (kind.Single p) = None
wrong_array f (kind.Vector p) = None
wrong_array f (kind.Array p w) =
    first (when (not (is_set (count_in (natural_of (integer_said w.items))))) fault.ArrayCount
    f.left)
    (first (when (is_set f.default) fault.DefaultInStruct f.left)
    (when (has (codes "key") (map attribute_of f.attributes.items)) fault.WrongKey f.left))

-- the number of an array's items, if it is known
abbrev pub count_or_none : Option (Option ℕ) → Option ℕ
count_or_none None = None
count_or_none (Some count) = count

abbrev pub known_count : Field → Option ℕ
known_count f = count_or_none (count_said (kind_of f.kind))

-- the size of all items together
abbrev pub measure_of_items : Option ℕ → Measure → Measure
measure_of_items count m =
    record { size = items_in count * m.size; alignment = m.alignment }

abbrev pub items_among : List (Option Measure) → Option ℕ → Base → Option Measure
items_among ms count b = option_map (measure_of_items count) (measure_among ms b)

abbrev pub wrong_type : List (Option Measure) → Option ℕ → ℕ → ℕ → Option FieldType
    → Option Broken
wrong_type ms count at left None = None
wrong_type ms count at left (Some t) = first (wrong_measure t.base left (measure_among ms t.base))
    (when (not (nat_le (end_of at (items_among ms count t.base)) 65535)) fault.StructTooLarge
    left)

-- a field after byte `at`
abbrev pub wrong_struct_field : List HeadV → SpaceV → List (Option Measure) → ℕ → Field
    → Option Broken
wrong_struct_field hs space ms at f =
    first (wrong_plain hs space f) (first (wrong_array f f.kind)
    (wrong_type ms (known_count f) at f.left (type_named hs space (kind_of f.kind))))

abbrev pub measure_in_type : List (Option Measure) → Option ℕ → Option FieldType
    → Option Measure
measure_in_type ms count None = None
measure_in_type ms count (Some t) = items_among ms count t.base

abbrev pub field_measure : List HeadV → SpaceV → List (Option Measure) → Field → Option Measure
field_measure hs space ms f =
    measure_in_type ms (known_count f) (type_named hs space (kind_of f.kind))

-- the fields after byte `at` and after those of these names
abbrev pub wrong_struct_fields : List HeadV → SpaceV → List (Option Measure) → ℕ → List Name
    → List Field → Option Broken
wrong_struct_fields hs space ms at names [] = None
wrong_struct_fields hs space ms at names (f ∷ fs) =
    first (wrong_struct_field hs space ms at f)
    (first (when (is_in names f.name.items) fault.FieldNameTaken f.left)
    (wrong_struct_fields hs space ms (end_of at (field_measure hs space ms f))
    (names ++ f.name.items ∷ []) fs))

-- ---- the whole

abbrev pub end_after : List HeadV → SpaceV → List (Option Measure) → ℕ → List Field → ℕ
end_after hs space ms at [] = at
end_after hs space ms at (f ∷ fs) =
    end_after hs space ms (end_of at (field_measure hs space ms f)) fs

abbrev pub alignment_in : Option Measure → ℕ
alignment_in None = 1
alignment_in (Some m) = m.alignment

abbrev pub greatest_after : List HeadV → SpaceV → List (Option Measure) → ℕ → List Field → ℕ
greatest_after hs space ms n [] = n
greatest_after hs space ms n (f ∷ fs) =
    greatest_after hs space ms (max n (alignment_in (field_measure hs space ms f))) fs

abbrev pub is_aligned : ℕ → ℕ → Bool
is_aligned greatest n = is_alignment n && nat_le greatest n

abbrev pub wrong_forced : ℕ → ℕ → Option ℕ → Option Broken
wrong_forced greatest left None = broken fault.WrongAlignment left
wrong_forced greatest left (Some n) =
    when (not (is_aligned greatest n)) fault.WrongAlignment left

-- at `force_align`, if it is given
abbrev pub wrong_alignment : ℕ → ℕ → Option Attribute → Option Broken
wrong_alignment greatest left None =
    when (not (is_aligned greatest greatest)) fault.WrongAlignment left
wrong_alignment greatest left (Some a) = wrong_forced greatest a.label.left
    (at_most 32 (number_in (attribute_of a).value))

abbrev pub is_empty : List Field → Bool
is_empty [] = true
is_empty (f ∷ fs) = false

-- the fields one by one, then the alignment; `left` is the place of the struct's name
abbrev pub wrong_struct : List HeadV → SpaceV → List (Option Measure) → Record → ℕ
    → Option Broken
wrong_struct hs space ms r left =
    first (when (is_empty r.fields.items) fault.EmptyStruct left)
    (first (wrong_struct_fields hs space ms 0 [] r.fields.items)
    (wrong_alignment (greatest_after hs space ms 1 r.fields.items) left
    (attribute_named (codes "force_align") r.attributes.items)))

abbrev pub measure_laid : ℕ → ℕ → Measure
measure_laid alignment end = record { size = next_multiple alignment end; alignment = alignment }

abbrev pub struct_measure : List HeadV → SpaceV → List (Option Measure) → Record
    → Option Measure
struct_measure hs space ms r =
    option_map (λ n. measure_laid n (end_after hs space ms 0 r.fields.items))
    (alignment_said (setting (codes "force_align") (map attribute_of r.attributes.items))
    (greatest_after hs space ms 1 r.fields.items))
