-- Schemas without their location in memory.
use Rattle.std.specs.Prelude.{◌≡◌, ℕ, List, [], map, Bool, true, false, Option, Vec}
use Rattle.std.specs.declared.alloc.Global.{Global}
use Rattle.std.specs.String.{string_bytes}
use Rattle.planus_dump.specs.declared.schemas.Schema.{Schema}
use Rattle.planus_dump.specs.declared.schemas.TableSchema.{TableSchema}
use Rattle.planus_dump.specs.declared.schemas.FieldSchema.{FieldSchema}
use Rattle.planus_dump.specs.declared.schemas.VariantSchema.{VariantSchema}
use Rattle.planus_dump.specs.declared.schemas.VariantKind.{VariantKind}
use Rattle.planus_dump.specs.declared.schemas.Kind.{Kind}
use Rattle.planus_dump.specs.declared.schemas.EnumSchema.{EnumSchema}
use Rattle.planus_dump.specs.declared.schemas.StructSchema.{StructSchema}
use Rattle.planus_dump.specs.declared.schemas.StructFieldSchema.{StructFieldSchema}
use Rattle.planus_dump.specs.declared.schemas.Fixed.{Fixed}
use Rattle.planus_dump.specs.declared.schemas.Number.{Number}

pub record FieldShape : Type 0 where
  pub slot : ℕ
  pub name : List ℕ
  pub kind : Kind
  pub deprecated : Bool
  pub required : Bool

abbrev pub field_shape : FieldSchema → FieldShape
field_shape field = record {
  slot = field.slot;
  name = string_bytes field.name;
  kind = field.kind;
  deprecated = field.deprecated;
  required = field.required;
}

pub record TableShape : Type 0 where
  pub name : List ℕ
  pub fields : List FieldShape

abbrev pub table_shape : TableSchema → TableShape
table_shape shape =
    record { name = string_bytes shape.name; fields = map field_shape shape.fields.items }

pub record VariantShape : Type 0 where
  pub tag : ℕ
  pub name : List ℕ
  pub kind : VariantKind

abbrev pub variant_shape : VariantSchema → VariantShape
variant_shape variant = record {
  tag = variant.tag;
  name = string_bytes variant.name;
  kind = variant.kind;
}

abbrev pub union_shape : Vec VariantSchema Global → List VariantShape
union_shape variants = map variant_shape variants.items

-- the schema has these tables and unions, no enum and no struct, and this root; a union's tag may
-- have no value
pub record HasShape
    (schema : Schema) (tables : List TableShape) (unions : List (List VariantShape)) (root : ℕ)
    : Type 0 where
  pub tables_are : map table_shape schema.tables.items ≡ tables
  pub unions_are : map union_shape schema.unions.items ≡ unions
  pub no_enums : schema.enums.items ≡ []
  pub no_structs : schema.structs.items ≡ []
  pub root_is : schema.root ≡ root
  pub tags_alone : schema.tags_need_values ≡ false

abbrev pub field_of : ℕ → List ℕ → Kind → FieldShape
field_of slot name kind = record {
  slot = slot;
  name = name;
  kind = kind;
  deprecated = false;
  required = false;
}

-- ---- values of a fixed size

-- the values by their bits and names
pub record EnumShape : Type 0 where
  pub number : Number
  pub flags : Bool
  pub values : List (ℕ × List ℕ)

abbrev pub enum_shape : EnumSchema → EnumShape
enum_shape shape = record {
  number = shape.number;
  flags = shape.flags;
  values = map (λ value. (value.0, string_bytes value.1)) shape.values.items;
}

pub record StructFieldShape : Type 0 where
  pub distance : ℕ
  pub name : List ℕ
  pub fixed : Fixed
  pub count : Option ℕ

abbrev pub struct_field_shape : StructFieldSchema → StructFieldShape
struct_field_shape field = record {
  distance = field.distance;
  name = string_bytes field.name;
  fixed = field.fixed;
  count = field.count;
}

pub record StructShape : Type 0 where
  pub name : List ℕ
  pub size : ℕ
  pub fields : List StructFieldShape

abbrev pub struct_shape : StructSchema → StructShape
struct_shape shape = record {
  name = string_bytes shape.name;
  size = shape.size;
  fields = map struct_field_shape shape.fields.items;
}

-- the schema has these parts and this root; a union's tag without a value is wrong
pub record HasShapes
    (schema : Schema) (tables : List TableShape) (unions : List (List VariantShape))
    (enums : List EnumShape) (structs : List StructShape) (root : ℕ) : Type 0 where
  pub tables_are : map table_shape schema.tables.items ≡ tables
  pub unions_are : map union_shape schema.unions.items ≡ unions
  pub enums_are : map enum_shape schema.enums.items ≡ enums
  pub structs_are : map struct_shape schema.structs.items ≡ structs
  pub root_is : schema.root ≡ root
  pub tags_need_values : schema.tags_need_values ≡ true
