-- The events of a dump by the shapes of a schema's parts.
use Rattle.std.proofs.Common.{◌≡◌, ℕ, ◌+◌, Bool, true, false, List, [], ◌∷◌, ◌++◌, length, map, drop, refl, ap, ◌∙◌, Option, Some, None, option_map, codes}
use Rattle.std.specs.Prelude.{◌==◌, if◌then◌else◌, nat_le, Result, Ok, Err, Vec}
use Rattle.std.specs.Int.{byte_len}
use Rattle.std.specs.String.{string_bytes}
use Rattle.std.specs.declared.alloc.Global.{Global}
use Rattle.planus_read.specs.Reading.{number}
use Rattle.planus_read.specs.declared.errors.ErrorKind.TheVariants.{InvalidOffset, UnknownUnionTag}
use Rattle.planus_dump.specs.Answers.{Seen, leaf_at, table_at}
use Rattle.planus_dump.specs.Events.{Event, line, TableEvents, field_label, fault_event, answer_event, variant_of, number_width, has_value, names_in, named, enum_events, enum_size, struct_size, counted_events, struct_fields_events, struct_events, member_events, variant_events, union_events, kind_events, fields_events, table_events, shape_events}
use Rattle.planus_dump.specs.Lines.{field_path, table_line, union_line, struct_line}
use Rattle.planus_dump.specs.Tests.{fault_text}
use Rattle.planus_dump.specs.Shapes.{FieldShape, field_shape, TableShape, table_shape, VariantShape, variant_shape, union_shape, EnumShape, enum_shape, StructFieldShape, struct_field_shape, StructShape, struct_shape}
use Rattle.planus_dump.specs.declared.values.Leaf.TheVariants as leaf
use Rattle.planus_dump.specs.declared.schemas.EnumSchema.{EnumSchema}
use Rattle.planus_dump.specs.declared.schemas.FieldSchema.{FieldSchema}
use Rattle.planus_dump.specs.declared.schemas.Schema.{Schema}
use Rattle.planus_dump.specs.declared.schemas.StructFieldSchema.{StructFieldSchema}
use Rattle.planus_dump.specs.declared.schemas.StructSchema.{StructSchema}
use Rattle.planus_dump.specs.declared.schemas.TableSchema.{TableSchema}
use Rattle.planus_dump.specs.declared.schemas.VariantSchema.{VariantSchema}

abbrev pub names_by : Bool → ℕ → List (ℕ × List ℕ) → List (List ℕ)
names_by flags n [] = []
names_by flags n (v ∷ vs) = if has_value flags n v.0 then v.1 ∷ names_by flags n vs else names_by flags n vs

pub names_are : (flags : Bool) (n : ℕ) (vs : _) → names_in flags n vs ≡ names_by flags n (map (λ v. (v.0, string_bytes v.1)) vs)
names_are flags n [] = refl
names_are flags n (v ∷ vs) =
    ap (λ r. if has_value flags n v.0 then string_bytes v.1 ∷ r else r) (names_are flags n vs)

abbrev pub enum_by : Option EnumShape → List ℕ → ℕ → List ℕ → List Event
enum_by None S f path = []
enum_by (Some x) S f path =
    answer_event path (named x.flags (leaf_at (leaf.Number x.number) S f) (names_by x.flags (number S f (number_width x.number)) x.values)) ∷ []

pub enum_is : (o : Option EnumSchema) (S : List ℕ) (f : ℕ) (path : List ℕ) → enum_events o S f path ≡ enum_by (option_map enum_shape o) S f path
enum_is None S f path = refl
enum_is (Some x) S f path =
    ap (λ r. answer_event path (named x.flags (leaf_at (leaf.Number x.number) S f) r) ∷ []) (names_are x.flags (number S f (number_width x.number)) x.values.items)

abbrev pub enum_size_by : Option EnumShape → ℕ
enum_size_by None = 1
enum_size_by (Some x) = byte_len (number_width x.number)

pub enum_size_is : (o : Option EnumSchema) → enum_size o ≡ enum_size_by (option_map enum_shape o)
enum_size_is None = refl
enum_size_is (Some x) = refl

abbrev pub struct_size_by : Option StructShape → ℕ
struct_size_by None = 1
struct_size_by (Some x) = x.size

pub struct_size_is : (o : Option StructSchema) → struct_size o ≡ struct_size_by (option_map struct_shape o)
struct_size_is None = refl
struct_size_is (Some x) = refl

module _ (schema : Schema) (T : TableEvents) where
  abbrev pub parts_by : List StructFieldShape → List ℕ → List ℕ → List Event
  parts_by [] S path = []
  parts_by (x ∷ xs) S path =
      counted_events schema T x.count x.fixed S x.distance (field_path path x.name) ++ parts_by xs S path

  pub parts_are : (xs : List StructFieldSchema) (S path : List ℕ) → struct_fields_events schema T xs S path ≡ parts_by (map struct_field_shape xs) S path
  parts_are [] S path = refl
  parts_are (x ∷ xs) S path =
      ap (λ r. counted_events schema T x.count x.fixed S x.distance (field_path path (string_bytes x.name)) ++ r) (parts_are xs S path)

  abbrev pub struct_by : Option StructShape → List ℕ → ℕ → List ℕ → List Event
  struct_by None S f path = []
  struct_by (Some x) S f path =
      if nat_le (f + x.size) (length S) then line (struct_line path x.name) ∷ parts_by x.fields (drop f S) path
      else fault_event path (fault_text InvalidOffset) ∷ []

  pub struct_is : (o : Option StructSchema) (S : List ℕ) (f : ℕ) (path : List ℕ) → struct_events schema T o S f path ≡ struct_by (option_map struct_shape o) S f path
  struct_is None S f path = refl
  struct_is (Some x) S f path =
      ap (λ r. if nat_le (f + x.size) (length S) then line (struct_line path (string_bytes x.name)) ∷ r else fault_event path (fault_text InvalidOffset) ∷ [])
      (parts_are x.fields.items (drop f S) path)

abbrev pub variant_in : List VariantShape → ℕ → Option VariantShape
variant_in [] tag = None
variant_in (x ∷ xs) tag = if x.tag == tag then Some x else variant_in xs tag

pub variant_is : (xs : List VariantSchema) (tag : ℕ) → option_map variant_shape (variant_of xs tag) ≡ variant_in (map variant_shape xs) tag
variant_is [] tag = refl
variant_is (x ∷ xs) tag = by_test (variant_is xs tag) (x.tag == tag)
  where
    by_test : option_map variant_shape (variant_of xs tag) ≡ variant_in (map variant_shape xs) tag → (b : Bool) → option_map variant_shape (if b then Some x else variant_of xs tag) ≡ (if b then Some (variant_shape x) else variant_in (map variant_shape xs) tag)
    by_test rest true = refl
    by_test rest false = rest

module _ (E : TableEvents) (schema : Schema) where
  abbrev pub variant_by : ℕ → List ℕ → ℕ → List ℕ → Option VariantShape → List Event
  variant_by tag S f path (Some x) = line (union_line path tag x.name) ∷ member_events E schema x.kind S f path
  variant_by tag S f path None = fault_event path (fault_text (UnknownUnionTag tag)) ∷ []

  pub one_variant_is : (tag : ℕ) (S : List ℕ) (f : ℕ) (path : List ℕ) (o : Option VariantSchema) → variant_events E schema tag S f path o ≡ variant_by tag S f path (option_map variant_shape o)
  one_variant_is tag S f path None = refl
  one_variant_is tag S f path (Some x) = refl

  abbrev pub union_by : Option (List VariantShape) → ℕ → List ℕ → ℕ → List ℕ → List Event
  union_by None tag S f path = []
  union_by (Some xs) tag S f path = variant_by tag S f path (variant_in xs tag)

  pub union_is : (o : Option (Vec VariantSchema Global)) (tag : ℕ) (S : List ℕ) (f : ℕ) (path : List ℕ) → union_events E schema o tag S f path ≡ union_by (option_map union_shape o) tag S f path
  union_is None tag S f path = refl
  union_is (Some xs) tag S f path =
      one_variant_is tag S f path (variant_of xs.items tag) ∙ ap (variant_by tag S f path) (variant_is xs.items tag)

  abbrev pub label_by : FieldShape → List ℕ
  label_by x = if x.deprecated then x.name ++ codes " (deprecated)" else x.name

  abbrev pub fields_by : Seen → List ℕ → List FieldShape → List Event
  fields_by table path [] = []
  fields_by table path (x ∷ xs) =
      kind_events E schema x.required x.kind x.slot table (field_path path (label_by x)) ++ fields_by table path xs

  pub fields_are : (table : Seen) (path : List ℕ) (xs : List FieldSchema) → fields_events E schema table path xs ≡ fields_by table path (map field_shape xs)
  fields_are table path [] = refl
  fields_are table path (x ∷ xs) =
      ap (λ r. kind_events E schema x.required x.kind x.slot table (field_path path (field_label x)) ++ r) (fields_are table path xs)

  abbrev pub table_by : TableShape → List ℕ → Result Seen (List ℕ) → List Event
  table_by x path (Ok table) = line (table_line path x.name) ∷ fields_by table path x.fields
  table_by x path (Err fault) = fault_event path fault ∷ []

  abbrev pub shape_by : Option TableShape → List ℕ → ℕ → List ℕ → List Event
  shape_by None S f path = []
  shape_by (Some x) S f path = table_by x path (table_at S f)

  pub table_is : (x : TableSchema) (path : List ℕ) (r : Result Seen (List ℕ)) → table_events E schema x path r ≡ table_by (table_shape x) path r
  table_is x path (Ok table) = ap (λ r. line (table_line path (string_bytes x.name)) ∷ r) (fields_are table path x.fields.items)
  table_is x path (Err fault) = refl

  pub shape_is : (o : Option TableSchema) (S : List ℕ) (f : ℕ) (path : List ℕ) → shape_events E schema o S f path ≡ shape_by (option_map table_shape o) S f path
  shape_is None S f path = refl
  shape_is (Some x) S f path = table_is x path (table_at S f)
