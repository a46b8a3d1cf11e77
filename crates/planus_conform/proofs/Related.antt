-- Parts of two schemas that show the same, up to the places of what belongs together.
use Rattle.std.proofs.Common.{◌≡◌, ℕ, true, List, [], ◌∷◌, Option, Some, None, option_map, slice_get}
use Rattle.planus_dump.specs.Shapes.{FieldShape, TableShape, table_shape, VariantShape, union_shape, enum_shape, StructFieldShape, StructShape, struct_shape}
use Rattle.planus_dump.specs.declared.schemas.Schema.{Schema}
use Rattle.planus_inspect.specs.Shown.{base_fixed, kind_of, member_kind}
use Rattle.planus_schema.specs.declared.schema.Base.{Base}
use Rattle.planus_schema.specs.declared.schema.FieldType.{FieldType}
use Rattle.planus_conform.specs.Matching.{Matches}
use Rattle.planus_conform.specs.Types.{same_base, same_type}
use Rattle.planus_conform.proofs.EventsByShapes.{variant_in}

module _ (m : List (Option ℕ)) where
  -- fields of structs that show the same
  pub record PartAlike (x y : StructFieldShape) : Type 0 where
    pub base_x : Base
    pub base_y : Base
    pub x_is : x.fixed ≡ base_fixed base_x
    pub y_is : y.fixed ≡ base_fixed base_y
    pub same : same_base m base_x base_y ≡ true
    pub distance : x.distance ≡ y.distance
    pub name : x.name ≡ y.name
    pub count : x.count ≡ y.count

  abbrev pub PartsAlike : List StructFieldShape → List StructFieldShape → Type 0
  PartsAlike [] [] = Unit {0}
  PartsAlike (x ∷ xs) (y ∷ ys) = PartAlike x y × PartsAlike xs ys
  PartsAlike xs ys = ⊥

  pub record StructAlike (x y : StructShape) : Type 0 where
    pub name : x.name ≡ y.name
    pub size : x.size ≡ y.size
    pub parts : PartsAlike x.fields y.fields

  abbrev pub StructsAlike : Option StructShape → Option StructShape → Type 0
  StructsAlike None None = Unit {0}
  StructsAlike (Some x) (Some y) = StructAlike x y
  StructsAlike o p = ⊥

  -- members of unions that show the same
  pub record MemberAlike (x y : VariantShape) : Type 0 where
    pub base_x : Base
    pub base_y : Base
    pub x_is : x.kind ≡ member_kind base_x
    pub y_is : y.kind ≡ member_kind base_y
    pub same : same_base m base_x base_y ≡ true
    pub name : x.name ≡ y.name

  abbrev pub MembersAlike : Option VariantShape → Option VariantShape → Type 0
  MembersAlike None None = Unit {0}
  MembersAlike (Some x) (Some y) = MemberAlike x y
  MembersAlike o p = ⊥

  abbrev pub UnionsAlike : Option (List VariantShape) → Option (List VariantShape) → Type 0
  UnionsAlike None None = Unit {0}
  UnionsAlike (Some xs) (Some ys) = (tag : ℕ) → MembersAlike (variant_in xs tag) (variant_in ys tag)
  UnionsAlike o p = ⊥

  -- both are bytes, or buffers whose roots belong together
  abbrev pub NestedAlike : Option ℕ → Option ℕ → Type 0
  NestedAlike None None = Unit {0}
  NestedAlike (Some i) (Some j) = Matches m i j
  NestedAlike o p = ⊥

  -- fields of tables that show the same
  pub record FieldAlike (x y : FieldShape) : Type 0 where
    pub type_x : FieldType
    pub type_y : FieldType
    pub root_x : Option ℕ
    pub root_y : Option ℕ
    pub x_is : x.kind ≡ kind_of type_x root_x
    pub y_is : y.kind ≡ kind_of type_y root_y
    pub same : same_type m type_x type_y ≡ true
    pub nested : NestedAlike root_x root_y
    pub slot : x.slot ≡ y.slot
    pub name : x.name ≡ y.name
    pub deprecated : x.deprecated ≡ y.deprecated
    pub required : x.required ≡ y.required

  abbrev pub FieldsAlike : List FieldShape → List FieldShape → Type 0
  FieldsAlike [] [] = Unit {0}
  FieldsAlike (x ∷ xs) (y ∷ ys) = FieldAlike x y × FieldsAlike xs ys
  FieldsAlike xs ys = ⊥

  pub record TableAlike (x y : TableShape) : Type 0 where
    pub name : x.name ≡ y.name
    pub fields : FieldsAlike x.fields y.fields

  abbrev pub TablesAlike : Option TableShape → Option TableShape → Type 0
  TablesAlike None None = Unit {0}
  TablesAlike (Some x) (Some y) = TableAlike x y
  TablesAlike o p = ⊥

  -- parts of schemas that belong together show the same
  pub record Related (a b : Schema) : Type 0 where
    pub enums : (i j : ℕ) → Matches m i j → option_map enum_shape (slice_get a.enums.items i) ≡ option_map enum_shape (slice_get b.enums.items j)
    pub structs : (i j : ℕ) → Matches m i j → StructsAlike (option_map struct_shape (slice_get a.structs.items i)) (option_map struct_shape (slice_get b.structs.items j))
    pub unions : (i j : ℕ) → Matches m i j → UnionsAlike (option_map union_shape (slice_get a.unions.items i)) (option_map union_shape (slice_get b.unions.items j))
    pub tables : (i j : ℕ) → Matches m i j → TablesAlike (option_map table_shape (slice_get a.tables.items i)) (option_map table_shape (slice_get b.tables.items j))
    pub tags : a.tags_need_values ≡ b.tags_need_values
