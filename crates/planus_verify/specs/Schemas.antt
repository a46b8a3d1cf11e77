-- Schemas as values.
use Rattle.std.specs.Prelude.{ℕ, ◌==◌, ◌&&◌, List, [], ◌∷◌, take, drop}
use Rattle.std.specs.Prelude.{Option, Some, None, if◌then◌else◌, slice_get}
use Rattle.planus_verify.specs.declared.schema.Schema.{Schema}
use Rattle.planus_verify.specs.declared.schema.TableShape.{TableShape}
use Rattle.planus_verify.specs.declared.schema.FieldShape.{FieldShape}
use Rattle.planus_verify.specs.declared.schema.Variant.{Variant}
use Rattle.planus_verify.specs.declared.schema.VariantKind.{VariantKind}

pub record Shapes : Type 0 where
  pub fields : List FieldShape
  pub tables : List TableShape
  pub variants : List Variant

abbrev pub shapes : Schema → Shapes
shapes schema =
    record {
      fields = schema.fields.now;
      tables = schema.tables.now;
      variants = schema.variants.now;
    }

-- A table has so many of the fields, from its first one on.
abbrev pub fields_in : List FieldShape → Option TableShape → List FieldShape
fields_in fields None = []
fields_in fields (Some shape) = take shape.count (drop shape.first fields)

-- the fields of the table at an index
abbrev pub fields_of : Shapes → ℕ → List FieldShape
fields_of schema t = fields_in schema.fields (slice_get schema.tables t)

-- what a union's reference leads to by its tag, where the schema has the tag
abbrev pub variant_in : List Variant → ℕ → ℕ → Option VariantKind
variant_in [] u tag = None
variant_in (one ∷ rest) u tag =
    if (one.union == u) && (one.tag == tag) then Some one.kind else variant_in rest u tag
