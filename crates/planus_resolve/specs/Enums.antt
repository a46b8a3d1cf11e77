-- Enums.
use Rattle.std.specs.Prelude.{◌≡◌, ℕ, ◌^◌, Bool, true, false, ◌==◌, ◌&&◌, not, if◌then◌else◌}
use Rattle.std.specs.Prelude.{nat_lt, ◌+◌, length, slice_get}
use Rattle.std.specs.Prelude.{List, [], ◌∷◌, ◌++◌, map, Option, Some, None, codes}
use Rattle.std.specs.List.{IsDistinct, list_all}
use Rattle.planus_syntax.specs.Values.{Name, VariantV, EnumerationV, names_of}
use Rattle.planus_syntax.specs.Values.{ItemV, include, namespace, attribute, table, struct}
use Rattle.planus_syntax.specs.Values.{native_include}
use Rattle.planus_syntax.specs.Values.{enumeration, union, service, root, identifier, extension}
use Rattle.planus_schema.specs.declared.schema.Base.{Base}
use Rattle.planus_schema.specs.declared.schema.Base.TheVariants as base
use Rattle.planus_schema.specs.declared.number.Number.{Number}
use Rattle.planus_schema.specs.declared.scalar.Scalar.{Scalar}
use Rattle.planus_schema.specs.declared.schema.Enum.{Enum}
use Rattle.planus_schema.specs.declared.schema.EnumValue.{EnumValue}
use Rattle.planus_schema.specs.Numbers.{zero_number, fits}
use Rattle.planus_schema.specs.Numbers.{integer_said, following_said}
use Rattle.planus_schema.specs.Numbers.{is_float, is_bool}
use Rattle.planus_resolve.specs.Names.{has, also_said, HeadV, base_named, space_at}
use Rattle.planus_schema.specs.Distinct.{AreDistinct}

-- ---- numbers

-- zero, or one more than that before, if it is below 2^64
abbrev pub next_said : Option Number → Option Number
next_said None = Some zero_number
next_said (Some n) = following_said n

-- the given number, or the next; `None` where it is no integer below 2^64
abbrev pub number_said : Option Number → Option (List ℕ) → Option Number
number_said previous None = next_said previous
number_said previous (Some digits) = integer_said digits

abbrev pub also : Option Number → List Number → List Number
also None rest = []
also (Some n) rest = n ∷ rest

-- the numbers before the first that is not below 2^64
abbrev pub numbers_said : Option Number → List VariantV → List Number
numbers_said previous [] = []
numbers_said previous (v ∷ vs) =
    also (number_said previous v.value) (numbers_said (number_said previous v.value) vs)

-- with `bit_flags` a number is the index of one of 64 bits
abbrev pub settled_said : Bool → Number → Option Number
settled_said false n = Some n
settled_said true n = if not n.negative && nat_lt n.magnitude 64
    then Some (record { negative = false; magnitude = 2 ^ n.magnitude }) else None

-- the value of a variant of this number
abbrev pub value_said : Bool → Option Number → Option Number
value_said flags None = None
value_said flags (Some n) = settled_said flags n

-- the values of these variants, after the number `previous`; `None` where one has none
abbrev pub values_said : Bool → Option Number → List VariantV → Option (List Number)
values_said flags previous [] = Some []
values_said flags previous (v ∷ vs) =
    also_said (value_said flags (number_said previous v.value))
    (values_said flags (number_said previous v.value) vs)

-- the value that nothing in braces stands for
abbrev pub none_variant : VariantV
none_variant = record { docs = []; name = codes "NONE"; value = None }

abbrev pub variants_or_none : List VariantV → List VariantV
variants_or_none [] = none_variant ∷ []
variants_or_none (v ∷ vs) = v ∷ vs

abbrev pub is_flags : EnumerationV → Bool
is_flags e = has (codes "bit_flags") e.attributes

-- ---- what an enum is

abbrev pub same_number : Number → Number → Bool
same_number a b = (if a.negative then b.negative else not b.negative) && a.magnitude == b.magnitude

abbrev pub number_of_value : EnumValue → Number
number_of_value v = v.number

abbrev pub is_integer_type : Scalar → Bool
is_integer_type s = not (is_float s) && not (is_bool s)

abbrev pub flattened : {A : Type 0} → Option (Option A) → Option A
flattened None = None
flattened (Some o) = o

-- The integer type that an enum of this base has: the base itself, or that of an enum before it.
-- `before`: those of the declarations before, `None` for what is no enum.
abbrev pub integer_in : List (Option Scalar) → Option Base → Option Scalar
integer_in before None = None
integer_in before (Some (base.Scalar s)) = if is_integer_type s then Some s else None
integer_in before (Some base.Text) = None
integer_in before (Some (base.Enum i)) = flattened (slice_get before i)
integer_in before (Some (base.Struct i)) = None
integer_in before (Some (base.Table i)) = None
integer_in before (Some (base.Union i)) = None

abbrev pub integer_of : List HeadV → List (Option Scalar) → List Name → ItemV → Option Scalar
integer_of hs before space (include w) = None
integer_of hs before space (native_include w) = None
integer_of hs before space (namespace p) = None
integer_of hs before space (attribute l) = None
integer_of hs before space (table r) = None
integer_of hs before space (struct r) = None
integer_of hs before space (enumeration e) =
    integer_in before (base_named hs (space_at space (length before + 1)) e.base)
integer_of hs before space (union u) = None
integer_of hs before space (service s) = None
integer_of hs before space (root p) = None
integer_of hs before space (identifier w) = None
integer_of hs before space (extension w) = None

abbrev pub integers_from : List HeadV → List (Option Scalar) → List HeadV → List (Option Scalar)
integers_from hs before [] = before
integers_from hs before (h ∷ rest) =
    integers_from hs (before ++ integer_of hs before h.space h.declaration.item ∷ []) rest

-- the integer types of the declarations, in order
unfoldable pub integers_of : List HeadV → List (Option Scalar)
integers_of hs = integers_from hs [] hs

abbrev pub integer_at : List HeadV → ℕ → Option Scalar
integer_at hs i = flattened (slice_get (integers_of hs) i)

pub record IsValueAdded (s : Scalar) (v : VariantV) (n : Number) (old new : List EnumValue) : Type 0
  where
    pub names : map (λ x. x.name.items) new ≡ map (λ x. x.name.items) old ++ v.name ∷ []
    pub docs : map (λ x. names_of x.docs.items) new
        ≡ map (λ x. names_of x.docs.items) old ++ v.docs ∷ []
    pub numbers : map number_of_value new ≡ map number_of_value old ++ n ∷ []
    pub within : list_all (λ x. fits s x.number) old ≡ true
        → list_all (λ x. fits s x.number) new ≡ true
    pub distinct : IsDistinct same_number (map number_of_value old)
        → IsDistinct same_number (map number_of_value new)

pub record AreValues (s : Scalar) (flags : Bool) (vs : List VariantV) (values : List EnumValue)
    : Type 0 where
  pub names : map (λ x. x.name.items) values ≡ map (λ v. v.name) vs
  pub docs : map (λ x. names_of x.docs.items) values ≡ map (λ v. v.docs) vs
  pub numbers : values_said flags None vs ≡ Some (map number_of_value values)
  pub within : list_all (λ x. fits s x.number) values ≡ true
  pub distinct : IsDistinct same_number (map number_of_value values)

-- distinct names and values, each value one of the enum's type
pub record IsEnum (e : Enum) : Type 0 where
  pub integer : is_integer_type e.scalar ≡ true
  pub within : list_all (λ v. fits e.scalar v.number) e.values.items ≡ true
  pub distinct : IsDistinct same_number (map number_of_value e.values.items)
  pub names : AreDistinct (map (λ v. v.name.items) e.values.items)

-- the enum is what is declared, of this integer type, with `NONE` alone for nothing in braces
pub record SaysEnum (integer : Option Scalar) (d : EnumerationV) (e : Enum) : Type 0 where
  pub scalar : integer ≡ Some e.scalar
  pub flags : e.flags ≡ is_flags d
  pub names : map (λ v. v.name.items) e.values.items
      ≡ map (λ v. v.name) (variants_or_none d.variants)
  pub docs : map (λ v. names_of v.docs.items) e.values.items
      ≡ map (λ v. v.docs) (variants_or_none d.variants)
  pub numbers : values_said (is_flags d) None (variants_or_none d.variants)
      ≡ Some (map number_of_value e.values.items)
