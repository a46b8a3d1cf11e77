-- Declared structs.
use Rattle.std.specs.Prelude.{◌≡◌, ℕ, ◌==◌, Bool, true, false, ◌&&◌, not}
use Rattle.std.specs.Prelude.{if◌then◌else◌, ◌*◌, nat_le}
use Rattle.std.specs.Str.{bytes_eq}
use Rattle.std.specs.Prelude.{List, Option, Some, None, codes}
use Rattle.planus_syntax.specs.Values.{LiteralV, numeral, named, quote, nothing, AttributeV}
use Rattle.planus_syntax.specs.Values.{FieldV, RecordV, names_of, KindV, single, vector, array}
use Rattle.planus_syntax.specs.Tokens.{is_number}
use Rattle.planus_syntax.specs.Strings.{between_quotes}
use Rattle.planus_schema.specs.declared.schema.Body.{Body}
use Rattle.planus_schema.specs.declared.schema.FieldType.{FieldType}
use Rattle.planus_schema.specs.declared.schema.Struct.{Struct}
use Rattle.planus_schema.specs.declared.schema.StructField.{StructField}
use Rattle.planus_schema.specs.declared.number.Number.{Number}
use Rattle.planus_schema.specs.declared.measure.Measure.{Measure}
use Rattle.planus_schema.specs.Numbers.{integer_said}
use Rattle.planus_schema.specs.Distinct.{Each2}
use Rattle.planus_schema.specs.Layouts.{measure_in, greatest_alignment}
use Rattle.planus_resolve.specs.Defaults.{ValueV, absent, integer, float, text, empty, default_said}
use Rattle.planus_resolve.specs.Names.{HeadV, SpaceV, type_named, is_array, setting, has}

-- not `required` or `deprecated`
abbrev pub is_plain : FieldV → Bool
is_plain f = not (has (codes "required") f.attributes) && not (has (codes "deprecated") f.attributes)

-- the value that a table's field of the type has without a default
abbrev pub is_zero_value : ValueV → Bool
is_zero_value absent = false
is_zero_value (integer n) = n.magnitude == 0
is_zero_value (float w) = bytes_eq w (codes "0")
is_zero_value (text w) = false
is_zero_value empty = false

abbrev pub is_zero_said : Option (Option ValueV) → Bool
is_zero_said None = false
is_zero_said (Some None) = false
is_zero_said (Some (Some v)) = is_zero_value v

-- no default, or zero
abbrev pub is_zero_default : List HeadV → FieldType → Option LiteralV → Bool
is_zero_default hs t None = true
is_zero_default hs t (Some l) = is_zero_said (default_said hs t (Some l))

abbrev pub natural_of : Option Number → Option ℕ
natural_of None = None
natural_of (Some n) = if n.negative then None else Some n.magnitude

-- an array has from 1 to 65535 items
abbrev pub is_count : ℕ → Bool
is_count n = nat_le 1 n && nat_le n 65535

-- the number, if an array can have n items
abbrev pub count_in : Option ℕ → Option (Option ℕ)
count_in None = None
count_in (Some n) = if is_count n then Some (Some n) else None

-- the number of an array's items, if it is an integer from 1 to 65535; another type has none
abbrev pub count_said : KindV → Option (Option ℕ)
count_said (single p) = Some None
count_said (vector p) = Some None
count_said (array p w) = count_in (natural_of (integer_said w))

-- a field that is no array is one item
abbrev pub items_in : Option ℕ → ℕ
items_in None = 1
items_in (Some n) = n

pub record SaysStructField (hs : List HeadV) (space : SpaceV) (bodies : List Body) (d : FieldV)
    (f : StructField) : Type 0 where
  pub name : f.name.items ≡ d.name
  pub docs : names_of f.docs.items ≡ d.docs
  pub kind : type_named hs space d.kind ≡ Some (record { vector = false; base = f.base })
  pub count : count_said d.kind ≡ Some f.count
  pub item : Measure
  pub measure : measure_in bodies f.base ≡ Some item
  pub size : f.size ≡ items_in f.count * item.size
  pub alignment : f.alignment ≡ item.alignment
  pub plain : is_plain d ≡ true
  pub zero : is_zero_default hs (record { vector = false; base = f.base }) d.default ≡ true
  pub default : is_array d.kind ≡ true → d.default ≡ None
  pub key : is_array d.kind ≡ true → has (codes "key") d.attributes ≡ false

-- the number of an attribute, if its value is one, in quotes or not
abbrev pub number_in : Option LiteralV → Option ℕ
number_in None = None
number_in (Some (numeral w)) = natural_of (integer_said w)
number_in (Some (named p)) = None
number_in (Some (quote w)) =
    let text = between_quotes w in if is_number text then natural_of (integer_said text) else None
number_in (Some nothing) = None

-- `force_align`, or the greatest alignment of the fields
abbrev pub alignment_said : Option AttributeV → ℕ → Option ℕ
alignment_said None greatest = Some greatest
alignment_said (Some a) greatest = number_in a.value

pub record SaysStruct (hs : List HeadV) (space : SpaceV) (bodies : List Body) (d : RecordV)
    (s : Struct) : Type 0 where
  pub fields : Each2 (SaysStructField hs space bodies) d.fields s.fields.items
  pub alignment : alignment_said (setting (codes "force_align") d.attributes)
      (greatest_alignment s.fields.items) ≡ Some s.alignment
