-- Vectors of tables that have a key, in the order of their keys.
use Rattle.std.specs.Prelude.{ℕ, ◌+◌, ◌-◌, ◌%◌, ◌==◌, true, Bool, nat_lt, if◌then◌else◌}
use Rattle.std.specs.Prelude.{List, [], ◌∷◌, map, reverse, slice_get, Option, Some, None}
use Rattle.std.specs.Prelude.{Vec}
use Rattle.std.specs.declared.alloc.Global.{Global}
use Rattle.std.specs.declared.cmp.Ordering.{Ordering}
use Rattle.std.specs.BTreeSet.{insert_key}
use Rattle.std.specs.Ordering.{nat_cmp, ordering_then}
use Rattle.std.specs.Cmp.Lexicographic.{slice_cmp}
use Rattle.planus.specs.Steps.{Step, text, table, FieldStep, struct_field, ref_field}
use Rattle.planus_schema.specs.declared.number.Number.{Number}
use Rattle.planus_schema.specs.declared.scalar.Scalar.{Scalar}
use Rattle.planus_schema.specs.declared.schema.Base.{Base}
use Rattle.planus_schema.specs.declared.schema.Base.TheVariants as base
use Rattle.planus_schema.specs.declared.schema.Declared.{Declared}
use Rattle.planus_schema.specs.declared.schema.Table.{Table}
use Rattle.planus_schema.specs.declared.schema.TableField.{TableField}
use Rattle.planus_schema.specs.Keys.{is_key}
use Rattle.planus_schema.specs.Numbers.{fits, is_float, scalar_size}
use Rattle.planus_pack.specs.Defaults.{default_number, scalar_of}
use Rattle.planus_pack.specs.Fields.{FieldV}
use Rattle.planus_pack.specs.Lookup.{table_at}
use Rattle.planus_pack.specs.Numbers.{number_bytes}

-- ---- keys as bytes, whose order is that of the keys

-- a byte with its highest bit turned
abbrev pub turned : ℕ → ℕ
turned b = (b + 128) % 256

abbrev pub complement : ℕ → ℕ
complement b = 255 - b

-- bytes of a number, the greatest first: below zero its sign's bit is set
abbrev pub signed_key : List ℕ → List ℕ
signed_key [] = []
signed_key (b ∷ bs) = turned b ∷ bs

-- below zero the others rise as the float falls
abbrev pub float_key : List ℕ → List ℕ
float_key [] = []
float_key (b ∷ bs) =
    if nat_lt b 128 then turned b ∷ bs else complement b ∷ map complement bs

abbrev pub is_signed : Scalar → Bool
is_signed s = fits s (record { negative = true; magnitude = 1 })

-- of the bytes of a number, the least first
abbrev pub number_key : Scalar → List ℕ → List ℕ
number_key s content = if is_float s then float_key (reverse content)
    else if is_signed s then signed_key (reverse content) else reverse content

-- ---- the key of a table that was put

-- what the first field with this slot holds
abbrev pub field_in : ℕ → List FieldV → Option FieldStep
field_in slot [] = None
field_in slot (f ∷ fs) = if f.0 == slot then Some f.1 else field_in slot fs

abbrev pub fields_in : Option Step → List FieldV
fields_in (Some (table fs)) = fs
fields_in _ = []

abbrev pub text_in : Option Step → List ℕ
text_in (Some (text w)) = w
text_in _ = []

abbrev pub plain_or : List ℕ → Option FieldStep → List ℕ
plain_or absent (Some (struct_field alignment content)) = content
plain_or absent _ = absent

abbrev pub referred : List Step → Option FieldStep → Option Step
referred steps (Some (ref_field n)) = slice_get steps n
referred steps _ = None

abbrev pub number_or_none : ℕ → Option Number → List ℕ
number_or_none size None = []
number_or_none size (Some n) = number_bytes size n

abbrev pub absent_bytes : Scalar → TableField → List ℕ
absent_bytes s f = number_or_none (scalar_size s) (default_number s f.default)

-- a number's bytes, or a text's
abbrev pub key_by : List Step → TableField → Option FieldStep → Option Scalar → List ℕ
key_by steps f value (Some s) = number_key s (plain_or (absent_bytes s f) value)
key_by steps f value None = text_in (referred steps value)

-- the key, in the field `f`, of the table that the step of this number puts
abbrev pub key_of : List Declared → List Step → TableField → ℕ → List ℕ
key_of declared steps f number = key_by steps f (field_in f.slot (fields_in (slice_get steps number)))
    (scalar_of declared f.kind.base)

-- ---- order

-- a key, and the number of its table's step
abbrev pub Keyed : Type 0
Keyed = List ℕ × ℕ

abbrev pub number : Keyed → ℕ
number k = k.1

-- by the keys' bytes; of equal keys the step before stands first
abbrev pub keyed_cmp : Keyed → Keyed → Ordering
keyed_cmp x y = ordering_then (slice_cmp nat_cmp x.0 y.0) (nat_cmp x.1 y.1)

abbrev pub keyed : List Declared → List Step → TableField → ℕ → Keyed
keyed declared steps f number = (key_of declared steps f number, number)

abbrev pub first_key : List TableField → Option TableField
first_key [] = None
first_key (f ∷ fs) = if is_key f then Some f else first_key fs

abbrev pub key_in : Option Table → Option TableField
key_in None = None
key_in (Some t) = first_key t.fields.items

-- the field by which tables of this type are ordered
abbrev pub key_field : List Declared → Base → Option TableField
key_field declared (base.Scalar s) = None
key_field declared base.Text = None
key_field declared (base.Enum i) = None
key_field declared (base.Struct i) = None
key_field declared (base.Table i) = key_in (table_at declared i)
key_field declared (base.Union i) = None

-- those so far, and tables that each go to their place among them
abbrev pub in_order : List Declared → List Step → TableField → List Keyed → List ℕ → List Keyed
in_order declared steps f found [] = found
in_order declared steps f found (n ∷ ns) =
    in_order declared steps f (insert_key keyed_cmp found (keyed declared steps f n)) ns

abbrev pub ordered : List Declared → List Step → List ℕ → Option TableField → List ℕ
ordered declared steps numbers None = numbers
ordered declared steps numbers (Some f) = map number (in_order declared steps f [] numbers)

-- the steps' numbers in the order of their tables' keys, if these have one
abbrev pub in_key_order : List Declared → Base → List Step → List ℕ → List ℕ
in_key_order declared b steps numbers = ordered declared steps numbers (key_field declared b)

-- a key of the program
abbrev pub keyed_view : Vec ℕ Global × ℕ → Keyed
keyed_view k = (k.0.items, k.1)
