-- When a schema describes the steps of a run.
use Rattle.std.specs.Prelude.{◌≡◌, ℕ, zero, suc, ◌+◌, ◌==◌, List, [], ◌∷◌, Vec, ⊤, false}
use Rattle.std.specs.Prelude.{Bool as Truth}
use Rattle.std.specs.Prelude.{Option, Some, None, slice_get, if◌then◌else◌}
use Rattle.std.specs.Int.{byte_len}
use Rattle.std.specs.List.{AllByRecursion}
use Rattle.std.specs.declared.alloc.Global.{Global}
use Rattle.planus.specs.Steps.{Step, text, bytes, numbers, refs, unions, table}
use Rattle.planus.specs.Steps.{FieldStep, number_field, struct_field, ref_field, tags_field, values_field}
use Rattle.planus_dump.specs.Dumped.{greatest_depth}
use Rattle.planus_dump.specs.Events.{variant_of, number_width}
use Rattle.planus_dump.specs.declared.schemas.Schema.{Schema}
use Rattle.planus_dump.specs.declared.schemas.TableSchema.{TableSchema}
use Rattle.planus_dump.specs.declared.schemas.VariantSchema.{VariantSchema}
use Rattle.planus_dump.specs.declared.schemas.VariantKind.{VariantKind}
use Rattle.planus_dump.specs.declared.schemas.VariantKind.TheVariants as member
use Rattle.planus_dump.specs.declared.schemas.Kind.{Kind}
use Rattle.planus_dump.specs.declared.schemas.Kind.TheVariants.{One, List as ListOf, Union}
use Rattle.planus_dump.specs.declared.schemas.Kind.TheVariants.{UnionVector, Bytes}
use Rattle.planus_dump.specs.declared.schemas.Item.{Item}
use Rattle.planus_dump.specs.declared.schemas.Item.TheVariants.{Number, Bool, Text, Table}

-- the size of a number or a bool
abbrev pub plain_size : Item → Option ℕ
plain_size (Number number) = Some (byte_len (number_width number))
plain_size Bool = Some 1
plain_size Text = None
plain_size (Table index) = None

abbrev pub plain_field_size : Kind → Option ℕ
plain_field_size (One item) = plain_size item
plain_field_size _ = None

abbrev pub IsTextStep : Option Step → Type 0
IsTextStep (Some (text content)) = ⊤
IsTextStep _ = ⊥

abbrev pub IsByteListStep : Option Step → Type 0
IsByteListStep (Some (bytes content)) = ⊤
IsByteListStep _ = ⊥

abbrev pub held_at : List (ℕ × FieldStep) → ℕ → Option FieldStep
held_at [] slot = None
held_at (field ∷ fields) slot = if field.0 == slot then Some field.1 else held_at fields slot

-- IsTable index n: the schema's table with this index describes step n.
module _ (steps : List Step) (IsTable : ℕ → ℕ → Type 0) where
  abbrev pub IsItem : Item → ℕ → Type 0
  IsItem Text n = IsTextStep (slice_get steps n)
  IsItem (Table index) n = IsTable index n
  IsItem _ n = ⊥

  -- a byte vector has items of one byte
  abbrev pub IsListOf : Item → Option Step → Type 0
  IsListOf item (Some (numbers width values)) = plain_size item ≡ Some width
  IsListOf item (Some (bytes content)) = plain_size item ≡ Some 1
  IsListOf item (Some (refs referred)) =
      (plain_size item ≡ None) × AllByRecursion (IsItem item) referred
  IsListOf item _ = ⊥

  abbrev pub IsReferred : Kind → ℕ → Type 0
  IsReferred (One item) n = IsItem item n
  IsReferred Bytes n = IsByteListStep (slice_get steps n)
  IsReferred (ListOf item) n = IsListOf item (slice_get steps n)
  IsReferred _ n = ⊥

  -- the field isn't required and is absent, a number of its size, or a reference to a value of the
  -- kind; of structs nothing is said
  abbrev pub IsFieldOf : Truth → Kind → Option FieldStep → Type 0
  IsFieldOf required kind None = required ≡ false
  IsFieldOf required kind (Some (number_field width value)) = plain_field_size kind ≡ Some width
  IsFieldOf required kind (Some (struct_field alignment content)) = ⊥
  IsFieldOf required kind (Some (ref_field n)) = IsReferred kind n
  IsFieldOf required kind (Some (tags_field n)) = ⊥
  IsFieldOf required kind (Some (values_field n)) = ⊥

  -- of structs nothing is said
  abbrev pub IsMember : VariantKind → ℕ → Type 0
  IsMember (member.Table index) n = IsTable index n
  IsMember (member.Struct index) n = ⊥
  IsMember member.Text n = IsTextStep (slice_get steps n)

  abbrev pub IsVariantOf : Option VariantSchema → ℕ → Type 0
  IsVariantOf (Some variant) n = IsMember variant.kind n
  IsVariantOf None n = ⊥

  abbrev pub IsTagged : Option (Vec VariantSchema Global) → ℕ → ℕ → Type 0
  IsTagged (Some variants) tag n = IsVariantOf (variant_of variants.items tag) n
  IsTagged None tag n = ⊥

  -- both slots are absent, or hold a tag of one byte and a reference to its table
  abbrev pub IsUnion :
      Truth → Option (Vec VariantSchema Global) → Option FieldStep → Option FieldStep → Type 0
  IsUnion required variants None None = required ≡ false
  IsUnion required variants (Some (number_field width tag)) (Some (ref_field n)) =
      (width ≡ 1) × IsTagged variants tag n
  IsUnion required variants _ _ = ⊥

  abbrev pub IsVectorOfUnions : Option (Vec VariantSchema Global) → Option Step → Type 0
  IsVectorOfUnions variants (Some (unions items)) =
      AllByRecursion (λ item. IsTagged variants item.0 item.1) items
  IsVectorOfUnions variants _ = ⊥

  -- both slots are absent, or hold the tags and the values of one such vector
  abbrev pub IsUnionVector :
      Truth → Option (Vec VariantSchema Global) → Option FieldStep → Option FieldStep → Type 0
  IsUnionVector required variants None None = required ≡ false
  IsUnionVector required variants (Some (tags_field n)) (Some (values_field m)) =
      (n ≡ m) × IsVectorOfUnions variants (slice_get steps n)
  IsUnionVector required variants _ _ = ⊥

  module _ (schema : Schema) where
    abbrev pub HasKind : List (ℕ × FieldStep) → ℕ → Truth → Kind → Type 0
    HasKind fields i required (Union index) =
        IsUnion required (slice_get schema.unions.items index) (held_at fields i)
        (held_at fields (i + 1))
    HasKind fields i required (UnionVector index) =
        IsUnionVector required (slice_get schema.unions.items index) (held_at fields i)
        (held_at fields (i + 1))
    HasKind fields i required kind = IsFieldOf required kind (held_at fields i)

    abbrev pub IsTableOf : Option TableSchema → Option Step → Type 0
    IsTableOf (Some shape) (Some (table fields)) =
        AllByRecursion (λ field. HasKind fields field.slot field.required field.kind)
        shape.fields.items
    IsTableOf _ _ = ⊥

-- the schema's table with this index describes step n, down to this depth
unfoldable pub Describes : Schema → List Step → ℕ → ℕ → ℕ → Type 0
Describes schema steps zero index n = ⊤
Describes schema steps (suc left) index n =
    IsTableOf steps (Describes schema steps left) schema (slice_get schema.tables.items index)
    (slice_get steps n)

-- The schema fits what the step writes, as deep as a dump goes.
abbrev pub Fits : Schema → List Step → ℕ → Type 0
Fits schema steps root = Describes schema steps greatest_depth schema.root root
