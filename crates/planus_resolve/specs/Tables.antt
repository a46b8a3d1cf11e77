-- Tables.
use Rattle.std.specs.Prelude.{◌≡◌, ℕ, Bool, true, false, ◌&&◌, ◌||◌, not}
use Rattle.std.specs.Prelude.{List, [], ◌∷◌, ◌++◌, Option, Some, None, codes}
use Rattle.std.specs.Prelude.{if◌then◌else◌, nat_le}
use Rattle.std.specs.List.{list_any, list_all}
use Rattle.std.specs.Option.{option_map}
use Rattle.planus_syntax.specs.Values.{Name, LiteralV, numeral, named, quote, nothing, AttributeV}
use Rattle.planus_syntax.specs.Values.{FieldV, RecordV, names_of}
use Rattle.planus_syntax.specs.Strings.{between_quotes}
use Rattle.planus_schema.specs.declared.scalar.Scalar.TheVariants.{UByte}
use Rattle.planus_schema.specs.declared.schema.Base.{Base}
use Rattle.planus_schema.specs.declared.schema.Base.TheVariants as base
use Rattle.planus_schema.specs.declared.schema.FieldType.{FieldType}
use Rattle.planus_schema.specs.declared.schema.Table.{Table}
use Rattle.planus_schema.specs.declared.schema.TableField.{TableField}
use Rattle.planus_resolve.specs.Names.{HeadV, SpaceV, type_named, setting, has, found, base_found, is_set}
use Rattle.planus_resolve.specs.Names.{as_record, is_array}
use Rattle.planus_schema.specs.Slots.{is_union, slots_taken, AreSlots, Follow}
use Rattle.planus_schema.specs.Distinct.{AreDistinct, Each2}
use Rattle.planus_resolve.specs.Structs.{number_in}
use Rattle.planus_resolve.specs.Defaults.{value_of, default_said}

-- ---- what a table is

-- the name of a union's type
abbrev pub type_name : Name → Name
type_name w = w ++ codes "_type"

-- a union's type is named before its value
abbrev pub names_for : FieldType → Name → List Name
names_for t w = if is_union t then type_name w ∷ w ∷ [] else w ∷ []

abbrev pub names_taken : TableField → List Name
names_taken f = names_for f.kind f.name.items

abbrev pub all_names : List TableField → List Name
all_names [] = []
all_names (f ∷ fs) = names_taken f ++ all_names fs

abbrev pub is_number_base : Base → Bool
is_number_base (base.Scalar s) = true
is_number_base base.Text = false
is_number_base (base.Enum i) = true
is_number_base (base.Struct i) = false
is_number_base (base.Table i) = false
is_number_base (base.Union i) = false

abbrev pub is_text_base : Base → Bool
is_text_base (base.Scalar s) = false
is_text_base base.Text = true
is_text_base (base.Enum i) = false
is_text_base (base.Struct i) = false
is_text_base (base.Table i) = false
is_text_base (base.Union i) = false

abbrev pub is_number : FieldType → Bool
is_number t = not t.vector && is_number_base t.base

-- a key is a scalar, an enum or a string
abbrev pub may_be_key : FieldType → Bool
may_be_key t = not t.vector && (is_number_base t.base || is_text_base t.base)

abbrev pub is_bytes : FieldType → Bool
is_bytes t = t.vector && is_ubyte t.base
  where
    is_ubyte : Base → Bool
    is_ubyte (base.Scalar UByte) = true
    is_ubyte b = false

-- which fields may be `required`, a `key` and a nested buffer
abbrev pub is_lawful : TableField → Bool
is_lawful f = not (f.required && is_number f.kind) && (not f.key || may_be_key f.kind)
    && (not (is_set f.nested) || is_bytes f.kind)

pub record IsTableBody (t : Table) : Type 0 where
  pub slots : AreSlots (slots_taken t.fields.items)
  pub names : AreDistinct (all_names t.fields.items)
  pub lawful : list_all is_lawful t.fields.items ≡ true

-- ---- what is declared

-- all fields have an `id` if one has
abbrev pub has_ids : List FieldV → Bool
has_ids fs = list_any (λ f. has (codes "id") f.attributes) fs

abbrev pub at_most : ℕ → Option ℕ → Option ℕ
at_most most None = None
at_most most (Some n) = if nat_le n most then Some n else None

abbrev pub id_in : Option LiteralV → Option ℕ
id_in None = Some 0
id_in (Some l) = number_in (Some l)

abbrev pub id_said_in : Option AttributeV → Option ℕ
id_said_in None = None
id_said_in (Some a) = at_most 65535 (id_in a.value)

-- the `id`, if it is an integer from 0 to 65535, or 0 if it has no value
abbrev pub id_said : FieldV → Option ℕ
id_said f = id_said_in (setting (codes "id") f.attributes)

abbrev pub nested_name : Option LiteralV → Option Name
nested_name None = None
nested_name (Some (numeral w)) = None
nested_name (Some (named p)) = None
nested_name (Some (quote w)) = Some (between_quotes w)
nested_name (Some nothing) = None

abbrev pub table_found : List HeadV → SpaceV → Option Name → Option Base
table_found hs space None = None
table_found hs space (Some w) = base_found hs (found hs as_record space (w ∷ []))

-- the table that `nested_flatbuffer` names
abbrev pub NestedIs : List HeadV → SpaceV → Option AttributeV → Option ℕ → Type 0
NestedIs hs space None o = o ≡ None
NestedIs hs space (Some a) None = ⊥
NestedIs hs space (Some a) (Some i) =
    table_found hs space (nested_name a.value) ≡ Some (base.Table i)

-- a string that is the key is required too
abbrev pub is_required : FieldType → FieldV → Bool
is_required t d = has (codes "required") d.attributes
    || (has (codes "key") d.attributes && is_text_base t.base)

pub record SaysField (hs : List HeadV) (space : SpaceV) (ids : Bool) (d : FieldV)
    (f : TableField) : Type 0 where
  pub name : f.name.items ≡ d.name
  pub docs : names_of f.docs.items ≡ d.docs
  pub kind : type_named hs space d.kind ≡ Some f.kind
  pub array : is_array d.kind ≡ false
  pub id : ids ≡ true → id_said d ≡ Some f.slot
  pub default : default_said hs f.kind d.default ≡ Some (option_map value_of f.default)
  pub required : f.required ≡ is_required f.kind d
  pub deprecated : f.deprecated ≡ has (codes "deprecated") d.attributes
  pub key : f.key ≡ has (codes "key") d.attributes
  pub nested : NestedIs hs space (setting (codes "nested_flatbuffer") d.attributes) f.nested

pub record SaysTable (hs : List HeadV) (space : SpaceV) (d : RecordV) (t : Table) : Type 0 where
  pub fields : Each2 (SaysField hs space (has_ids d.fields)) d.fields t.fields.items
  pub order : has_ids d.fields ≡ false
      → (end : ℕ) × Follow 0 t.fields.items end
