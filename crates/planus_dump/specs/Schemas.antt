-- Good schemas, part by part.
use Rattle.std.specs.Prelude.{ℕ, nat_lt, ◌==◌, List, [], ◌∷◌, length, Vec}
use Rattle.std.specs.Prelude.{Bool, true, not, ◌&&◌, ◌||◌}
use Rattle.std.specs.List.{list_all, list_any}
use Rattle.std.specs.Int.{is_in_range}
use Rattle.std.specs.String.{string_bytes}
use Rattle.std.specs.declared.alloc.Global.{Global}
use Rattle.planus_dump.specs.declared.schemas.Schema.{Schema}
use Rattle.planus_dump.specs.declared.schemas.TableSchema.{TableSchema}
use Rattle.planus_dump.specs.declared.schemas.FieldSchema.{FieldSchema}
use Rattle.planus_dump.specs.declared.schemas.Kind.{Kind}
use Rattle.planus_dump.specs.declared.schemas.Kind.TheVariants.{One, List as ListOf, Union}
use Rattle.planus_dump.specs.declared.schemas.Kind.TheVariants.{UnionVector, Bytes}
use Rattle.planus_dump.specs.declared.schemas.Kind.TheVariants.{Fixed as FixedKind, FixedList}
use Rattle.planus_dump.specs.declared.schemas.Kind.TheVariants.{Nested}
use Rattle.planus_dump.specs.declared.schemas.StructSchema.{StructSchema}
use Rattle.planus_dump.specs.declared.schemas.StructFieldSchema.{StructFieldSchema}
use Rattle.planus_dump.specs.declared.schemas.VariantSchema.{VariantSchema}
use Rattle.planus_dump.specs.declared.schemas.VariantKind.{VariantKind}
use Rattle.planus_dump.specs.declared.schemas.VariantKind.TheVariants as member
use Rattle.planus_dump.specs.declared.schemas.Fixed.{Fixed}
use Rattle.planus_dump.specs.declared.schemas.Fixed.TheVariants as fixed
use Rattle.planus_dump.specs.declared.schemas.Item.{Item}
use Rattle.planus_dump.specs.declared.schemas.Item.TheVariants.{Table}

abbrev pub table_count : Schema → ℕ
table_count schema = length schema.tables.items

abbrev pub union_count : Schema → ℕ
union_count schema = length schema.unions.items

-- an ASCII letter or digit, or `_`
abbrev pub is_name_byte : ℕ → Bool
is_name_byte byte =
    is_in_range 65 90 byte || is_in_range 97 122 byte || is_in_range 48 57 byte || byte == 95

-- at least one such byte, and no others
abbrev pub is_name : List ℕ → Bool
is_name bytes = not (length bytes == 0) && list_all is_name_byte bytes

-- the schema has the item's table
abbrev pub item_fits : ℕ → Item → Bool
item_fits tables (Table index) = nat_lt index tables
item_fits tables _ = true

-- the schema has the kind's table or union
abbrev pub kind_fits : ℕ → ℕ → Kind → Bool
kind_fits tables unions (One item) = item_fits tables item
kind_fits tables unions (ListOf item) = item_fits tables item
kind_fits tables unions (Union index) = nat_lt index unions
kind_fits tables unions (UnionVector index) = nat_lt index unions
kind_fits tables unions Bytes = true
kind_fits tables unions (FixedKind value) = true
kind_fits tables unions (FixedList value) = true
kind_fits tables unions (Nested index) = nat_lt index tables

-- a field has a name, and its kind fits
abbrev pub field_fits : ℕ → ℕ → FieldSchema → Bool
field_fits tables unions field =
    is_name (string_bytes field.name) && kind_fits tables unions field.kind

-- a table has a name, and good fields
abbrev pub table_fits : ℕ → ℕ → TableSchema → Bool
table_fits tables unions table =
    is_name (string_bytes table.name) && list_all (field_fits tables unions) table.fields.items

abbrev pub is_name_or_none : List ℕ → Bool
is_name_or_none bytes = length bytes == 0 || is_name bytes

-- the schema has the variant's table or struct
abbrev pub variant_kind_fits : ℕ → ℕ → VariantKind → Bool
variant_kind_fits tables structs (member.Table index) = nat_lt index tables
variant_kind_fits tables structs (member.Struct index) = nat_lt index structs
variant_kind_fits tables structs member.Text = true

-- the tag isn't 0 or another's, the type is there, and the name is one if there is any
abbrev pub variant_fits : ℕ → ℕ → VariantSchema → List VariantSchema → Bool
variant_fits tables structs variant others =
    not (variant.tag == 0) && variant_kind_fits tables structs variant.kind
    && not (list_any (λ other. other.tag == variant.tag) others)
    && is_name_or_none (string_bytes variant.name)

abbrev pub variants_fit : ℕ → ℕ → List VariantSchema → Bool
variants_fit tables structs [] = true
variants_fit tables structs (variant ∷ rest) =
    variant_fits tables structs variant rest && variants_fit tables structs rest

abbrev pub union_fits : ℕ → ℕ → Vec VariantSchema Global → Bool
union_fits tables structs variants = variants_fit tables structs variants.items

-- the schema has the value's enum or struct
abbrev pub fixed_fits : ℕ → ℕ → Fixed → Bool
fixed_fits enums structs (fixed.Enum index) = nat_lt index enums
fixed_fits enums structs (fixed.Struct index) = nat_lt index structs
fixed_fits enums structs _ = true

abbrev pub fixed_kind_fits : ℕ → ℕ → Kind → Bool
fixed_kind_fits enums structs (FixedKind value) = fixed_fits enums structs value
fixed_kind_fits enums structs (FixedList value) = fixed_fits enums structs value
fixed_kind_fits enums structs _ = true

abbrev pub fixed_kinds_fit : ℕ → ℕ → TableSchema → Bool
fixed_kinds_fit enums structs table =
    list_all (λ field. fixed_kind_fits enums structs field.kind) table.fields.items

abbrev pub struct_field_fits : ℕ → ℕ → StructFieldSchema → Bool
struct_field_fits enums structs field =
    is_name (string_bytes field.name) && fixed_fits enums structs field.fixed

abbrev pub struct_fits : ℕ → ℕ → StructSchema → Bool
struct_fits enums structs shape =
    is_name (string_bytes shape.name)
    && list_all (struct_field_fits enums structs) shape.fields.items

-- the same for all values of a fixed size
abbrev pub fixed_values_fit : ℕ → ℕ → Schema → Bool
fixed_values_fit enums structs schema =
    list_all (fixed_kinds_fit enums structs) schema.tables.items
    && list_all (struct_fits enums structs) schema.structs.items

-- a good schema
abbrev pub is_good : Schema → Bool
is_good schema =
    nat_lt schema.root (table_count schema)
    && list_all (table_fits (table_count schema) (union_count schema)) schema.tables.items
    && list_all (union_fits (table_count schema) (length schema.structs.items)) schema.unions.items
    && fixed_values_fit (length schema.enums.items) (length schema.structs.items) schema
