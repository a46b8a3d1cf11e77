-- Defaults.
use Rattle.std.specs.Prelude.{ℕ, Bool, true, false, ◌&&◌, ◌||◌, ◌==◌}
use Rattle.std.specs.Prelude.{not, if◌then◌else◌, fold, bit_or}
use Rattle.std.specs.Prelude.{List, [], ◌∷◌, Option, Some, None, codes}
use Rattle.std.specs.List.{list_any}
use Rattle.std.specs.Str.{bytes_eq}
use Rattle.planus_syntax.specs.Values.{Name, PathV, LiteralV, numeral, named, quote, nothing}
use Rattle.planus_syntax.specs.Values.{ItemV, include, namespace, attribute, table, struct}
use Rattle.planus_syntax.specs.Values.{native_include}
use Rattle.planus_syntax.specs.Values.{enumeration, union, service, root, identifier, extension}
use Rattle.planus_syntax.specs.Values.{VariantV, EnumerationV}
use Rattle.planus_syntax.specs.Tokens.{is_number, is_float_name}
use Rattle.planus_syntax.specs.Strings.{between_quotes, string_text}
use Rattle.planus_schema.specs.declared.number.Number.{Number}
use Rattle.planus_schema.specs.declared.scalar.Scalar.{Scalar}
use Rattle.planus_schema.specs.declared.scalar.Scalar.TheVariants.{UByte}
use Rattle.planus_schema.specs.declared.schema.Base.{Base}
use Rattle.planus_schema.specs.declared.schema.Base.TheVariants as base
use Rattle.planus_schema.specs.declared.schema.FieldType.{FieldType}
use Rattle.planus_schema.specs.declared.schema.Value.{Value}
use Rattle.planus_schema.specs.declared.schema.Value.TheVariants as value
use Rattle.planus_schema.specs.Numbers.{integer_said, is_float, is_bool, fits}
use Rattle.planus_schema.specs.Numbers.{zero_number}
use Rattle.planus_schema.specs.Numbers.{is_hexadecimal, without_sign}
use Rattle.planus_resolve.specs.Names.{HeadV, item_at, cut_words}
use Rattle.planus_resolve.specs.Enums.{number_said, settled_said, is_flags, numbers_said}
use Rattle.planus_resolve.specs.Enums.{same_number, variants_or_none, integer_at}

-- ---- values

pub data ValueV : Type 0 where
  absent : ValueV
  integer : Number → ValueV
  float : List ℕ → ValueV
  text : List ℕ → ValueV
  empty : ValueV

abbrev pub value_of : Value → ValueV
value_of value.Absent = absent
value_of (value.Integer n) = integer n
value_of (value.Float w) = float w.items
value_of (value.Text w) = text w.items
value_of value.EmptyVector = empty

-- ---- literals of each type; `None` where one is no value of the type

-- a word without dots
abbrev pub lone_word : PathV → Option Name
lone_word p = lone_in p.more
  where
    lone_in : List Name → Option Name
    lone_in [] = Some p.first
    lone_in (n ∷ ns) = None

abbrev pub is_null : Name → Bool
is_null w = bytes_eq w (codes "null")

abbrev pub if_fits : Scalar → Option Number → Option ValueV
if_fits s None = None
if_fits s (Some n) = if fits s n then Some (integer n) else None

abbrev pub whole_number : Scalar → List ℕ → Option ValueV
whole_number s w = if_fits s (integer_said w)

abbrev pub truth : Number
truth = record { negative = false; magnitude = 1 }

-- a byte, of which counts whether it is zero
abbrev pub bool_number : Option Number → Option ValueV
bool_number None = None
bool_number (Some n) = if fits UByte n
    then Some (integer (if n.magnitude == 0 then zero_number else truth)) else None

abbrev pub named_bool : Name → Option ValueV
named_bool w = if bytes_eq w (codes "true") then Some (integer truth)
    else if bytes_eq w (codes "false") then Some (integer zero_number) else None

-- `inf`, `infinity` or `nan`, in lower or upper case
abbrev pub named_float : Name → Option ValueV
named_float w = if is_float_name w then Some (float w) else None

-- a `p`, before the exponent of a hexadecimal float
abbrev pub has_exponent : List ℕ → Bool
has_exponent w = list_any (λ b. b == 112 || b == 80) w

-- no hexadecimal integer
abbrev pub float_number : List ℕ → Option ValueV
float_number w =
    if is_hexadecimal (without_sign w) && not (has_exponent w) then None else Some (float w)

abbrev pub scalar_number : Scalar → List ℕ → Option ValueV
scalar_number s w = if is_float s then float_number w
    else if is_bool s then bool_number (integer_said w) else whole_number s w

abbrev pub scalar_word : Scalar → Name → Option ValueV
scalar_word s w = if is_null w then Some absent
    else if is_float s then named_float w else if is_bool s then named_bool w else None

abbrev pub scalar_named_by : Scalar → Option Name → Option ValueV
scalar_named_by s None = None
scalar_named_by s (Some w) = scalar_word s w

-- in quotes stands a number or a word
abbrev pub scalar_quoted : Scalar → List ℕ → Option ValueV
scalar_quoted s w = if is_number w then scalar_number s w else scalar_word s w

abbrev pub scalar_default : Scalar → LiteralV → Option ValueV
scalar_default s (numeral w) = scalar_number s w
scalar_default s (named p) = scalar_named_by s (lone_word p)
scalar_default s (quote w) = scalar_quoted s (between_quotes w)
scalar_default s nothing = None

abbrev pub this_or : Bool → Bool → Option Number → Option Number → Option Number
this_or this flags None rest = None
this_or this flags (Some n) rest = if this then settled_said flags n else rest

abbrev pub value_named : Name → Bool → Option Number → List VariantV → Option Number
value_named w flags previous [] = None
value_named w flags previous (v ∷ vs) =
    this_or (bytes_eq v.name w) flags (number_said previous v.value)
    (value_named w flags (number_said previous v.value) vs)

abbrev pub as_integer : Option Number → Option ValueV
as_integer None = None
as_integer (Some n) = Some (integer n)

-- the word alone, or the word after the enum's name
abbrev pub value_name : EnumerationV → PathV → Option Name
value_name e p = name_in p.more
  where
    name_in : List Name → Option Name
    name_in [] = Some p.first
    name_in (n ∷ []) = if bytes_eq p.first e.name then Some n else None
    name_in (n ∷ m ∷ ns) = None

abbrev pub value_in : EnumerationV → Option Name → Option ValueV
value_in e None = None
value_in e (Some w) = as_integer (value_named w (is_flags e) None (variants_or_none e.variants))

abbrev pub enum_named : EnumerationV → PathV → Option ValueV
enum_named e p = value_in e (value_name e p)

-- one of the values, or with `bit_flags` any number of the type
abbrev pub is_among_values : Option Scalar → EnumerationV → Number → Bool
is_among_values s e n = if is_flags e then fits_in s
    else list_any (λ v. same_number v n) (numbers_said None (variants_or_none e.variants))
  where
    fits_in : Option Scalar → Bool
    fits_in None = false
    fits_in (Some t) = fits t n

abbrev pub among_values : Option Scalar → EnumerationV → Number → Option ValueV
among_values s e n = if is_among_values s e n then Some (integer n) else None

abbrev pub or_flag : ℕ → Option Number → Option ℕ
or_flag total None = None
or_flag total (Some n) = Some (bit_or total n.magnitude)

abbrev pub with_flag : EnumerationV → Option ℕ → Name → Option ℕ
with_flag e None w = None
with_flag e (Some total) w = or_flag total (value_named w true None (variants_or_none e.variants))

-- the values of these names, joined by or
abbrev pub flags_named : EnumerationV → List Name → Option ℕ
flags_named e ws = fold (with_flag e) (Some 0) ws

abbrev pub as_flags : Option ℕ → Option ValueV
as_flags None = None
as_flags (Some n) = Some (integer (record { negative = false; magnitude = n }))

abbrev pub number_default : Option Scalar → EnumerationV → Option Number → Option ValueV
number_default s e None = None
number_default s e (Some n) = among_values s e n

-- in quotes stands a number, `null`, a value, or with `bit_flags` several
abbrev pub enum_quoted : Option Scalar → EnumerationV → List ℕ → Option ValueV
enum_quoted s e w = if is_number w then number_default s e (integer_said w)
    else if is_null w then Some absent
    else if is_flags e then as_flags (flags_named e (cut_words [] w))
    else value_in e (Some w)

abbrev pub null_or : Option Name → Option ValueV → Option ValueV
null_or None o = o
null_or (Some w) o = if is_null w then Some absent else o

-- the enum has this integer type
abbrev pub enum_default : Option Scalar → EnumerationV → LiteralV → Option ValueV
enum_default s e (numeral w) = number_default s e (integer_said w)
enum_default s e (named p) = null_or (lone_word p) (enum_named e p)
enum_default s e (quote w) = enum_quoted s e (between_quotes w)
enum_default s e nothing = None

abbrev pub text_default : LiteralV → Option ValueV
text_default (numeral w) = None
text_default (named p) = None
text_default (quote w) = Some (text (string_text w))
text_default nothing = None

abbrev pub vector_default : LiteralV → Option ValueV
vector_default (numeral w) = None
vector_default (named p) = None
vector_default (quote w) = None
vector_default nothing = Some empty

abbrev pub enum_at : Option ItemV → Option EnumerationV
enum_at None = None
enum_at (Some (include w)) = None
enum_at (Some (native_include w)) = None
enum_at (Some (namespace p)) = None
enum_at (Some (attribute l)) = None
enum_at (Some (table r)) = None
enum_at (Some (struct r)) = None
enum_at (Some (enumeration e)) = Some e
enum_at (Some (union u)) = None
enum_at (Some (service s)) = None
enum_at (Some (root p)) = None
enum_at (Some (identifier w)) = None
enum_at (Some (extension w)) = None

abbrev pub default_in : Option Scalar → Option EnumerationV → LiteralV → Option ValueV
default_in s None l = None
default_in s (Some e) l = enum_default s e l

abbrev pub base_default : List HeadV → Base → LiteralV → Option ValueV
base_default hs (base.Scalar s) l = scalar_default s l
base_default hs base.Text l = text_default l
base_default hs (base.Enum i) l = default_in (integer_at hs i) (enum_at (item_at hs i)) l
base_default hs (base.Struct i) l = None
base_default hs (base.Table i) l = None
base_default hs (base.Union i) l = None

abbrev pub zero_in : Option Scalar → Option EnumerationV → Option (Option ValueV)
zero_in s None = None
zero_in s (Some e) =
    if is_among_values s e zero_number then Some (Some (integer zero_number)) else None

abbrev pub zero_scalar : Scalar → ValueV
zero_scalar s = if is_float s then float (codes "0") else integer zero_number

-- without a literal: zero, if it is a value, and none for what isn't a scalar or an enum
abbrev pub zero_default : List HeadV → Base → Option (Option ValueV)
zero_default hs (base.Scalar s) = Some (Some (zero_scalar s))
zero_default hs base.Text = Some None
zero_default hs (base.Enum i) = zero_in (integer_at hs i) (enum_at (item_at hs i))
zero_default hs (base.Struct i) = Some None
zero_default hs (base.Table i) = Some None
zero_default hs (base.Union i) = Some None

abbrev pub some_default : Option ValueV → Option (Option ValueV)
some_default None = None
some_default (Some v) = Some (Some v)

-- the default of a field of this type; `None` where the literal is no value of it
abbrev pub default_said : List HeadV → FieldType → Option LiteralV → Option (Option ValueV)
default_said hs t None = if t.vector then Some None else zero_default hs t.base
default_said hs t (Some l) =
    some_default (if t.vector then vector_default l else base_default hs t.base l)

-- ---- the defaults of a type

abbrev pub is_scalar_value : Scalar → ValueV → Bool
is_scalar_value s absent = true
is_scalar_value s (integer n) = not (is_float s) && fits s n
is_scalar_value s (float w) = is_float s
is_scalar_value s (text w) = false
is_scalar_value s empty = false

abbrev pub is_enum_value : ValueV → Bool
is_enum_value absent = true
is_enum_value (integer n) = true
is_enum_value (float w) = false
is_enum_value (text w) = false
is_enum_value empty = false

abbrev pub is_text_value : ValueV → Bool
is_text_value absent = false
is_text_value (integer n) = false
is_text_value (float w) = false
is_text_value (text w) = true
is_text_value empty = false

abbrev pub is_vector_value : ValueV → Bool
is_vector_value absent = false
is_vector_value (integer n) = false
is_vector_value (float w) = false
is_vector_value (text w) = false
is_vector_value empty = true

abbrev pub is_value : Base → ValueV → Bool
is_value (base.Scalar s) v = is_scalar_value s v
is_value base.Text v = is_text_value v
is_value (base.Enum i) v = is_enum_value v
is_value (base.Struct i) v = false
is_value (base.Table i) v = false
is_value (base.Union i) v = false

abbrev pub needs_none : Base → Bool
needs_none (base.Scalar s) = false
needs_none base.Text = true
needs_none (base.Enum i) = false
needs_none (base.Struct i) = true
needs_none (base.Table i) = true
needs_none (base.Union i) = true

-- a value of the type, or none for what isn't a scalar or an enum
abbrev pub is_default : FieldType → Option ValueV → Bool
is_default t None = t.vector || needs_none t.base
is_default t (Some v) = if t.vector then is_vector_value v else is_value t.base v
