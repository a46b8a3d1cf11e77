-- Schemas whose lists fit together.
use Rattle.std.specs.Prelude.{ℕ, ◌+◌, ◌==◌, ◌&&◌, ◌||◌, nat_le, nat_lt, List, [], ◌∷◌, length, Bool, true}
use Rattle.planus_verify.specs.Schemas.{Shapes, fields_in}
use Rattle.std.specs.Prelude.{Some}
use Rattle.planus_verify.specs.declared.schema.TableShape.{TableShape}
use Rattle.planus_verify.specs.declared.schema.FieldShape.{FieldShape}
use Rattle.planus_verify.specs.declared.schema.Variant.{Variant}
use Rattle.planus_verify.specs.declared.schema.FieldKind.{FieldKind}
use Rattle.planus_verify.specs.declared.schema.FieldKind.TheVariants as kind
use Rattle.planus_verify.specs.declared.schema.ValueKind.{ValueKind}
use Rattle.planus_verify.specs.declared.schema.ValueKind.TheVariants as value
use Rattle.planus_verify.specs.declared.schema.VariantKind.{VariantKind}
use Rattle.planus_verify.specs.declared.schema.VariantKind.TheVariants as variant

abbrev pub all_of : {X : Type 0} → (X → Bool) → List X → Bool
all_of test [] = true
all_of test (x ∷ xs) = test x && all_of test xs

-- how many slots a field has
abbrev pub slots_used : FieldKind → ℕ
slots_used (kind.Value value) = 1
slots_used (kind.Union u) = 2
slots_used (kind.Unions u) = 2

-- Each field's slots are after those of the field before it, and all below the greatest number of
-- slots that a vtable has.
abbrev pub apart_from : ℕ → List FieldShape → Bool
apart_from next [] = nat_le next 32765
apart_from next (field ∷ fields) =
    nat_le next field.slot && apart_from (field.slot + slots_used field.kind) fields

-- The table that a field refers to is one of so many.
abbrev pub value_in : ℕ → ValueKind → Bool
value_in tables (value.Plain size) = true
value_in tables value.Text = true
value_in tables value.Bytes = true
value_in tables (value.Plains size) = true
value_in tables value.Texts = true
value_in tables (value.Table t) = nat_lt t tables
value_in tables (value.Tables t) = nat_lt t tables
value_in tables (value.Nested t) = nat_lt t tables

abbrev pub kind_in : ℕ → FieldKind → Bool
kind_in tables (kind.Value value) = value_in tables value
kind_in tables (kind.Union u) = true
kind_in tables (kind.Unions u) = true

-- A table's fields are in the list, and their slots apart.
abbrev pub table_fits : List FieldShape → TableShape → Bool
table_fits fields shape =
    nat_le (shape.first + shape.count) (length fields) && apart_from 0 (fields_in fields (Some shape))

-- The table to which a variant refers is one of so many.
abbrev pub variant_fits : ℕ → VariantKind → Bool
variant_fits tables (variant.Table t) = nat_lt t tables
variant_fits tables variant.Text = true
variant_fits tables (variant.Struct size) = true

-- Variants are in the order of their unions and tags, with tags above 0 and tables of the schema.
abbrev pub variants_rise : ℕ → ℕ → ℕ → List Variant → Bool
variants_rise tables u tag [] = true
variants_rise tables u tag (one ∷ rest) =
    (nat_lt u one.union || ((u == one.union) && nat_lt tag one.tag))
    && (nat_lt 0 one.tag && (variant_fits tables one.kind
    && variants_rise tables one.union one.tag rest))

-- All ranges are in the list of fields, the slots of each table apart, tables that are named there,
-- and tags distinct and above 0.
abbrev pub is_whole : Shapes → Bool
is_whole schema =
    all_of (table_fits schema.fields) schema.tables
    && (all_of (λ field. kind_in (length schema.tables) field.kind) schema.fields
    && variants_rise (length schema.tables) 0 0 schema.variants)

-- The lists fit together, and the table is one of them.
abbrev pub is_kind : Shapes → ℕ → Bool
is_kind schema t = nat_lt t (length schema.tables) && is_whole schema
