-- Faults of enums.
use Rattle.std.specs.Prelude.{Bool, not, List, [], ◌∷◌, ◌++◌, map}
use Rattle.std.specs.Prelude.{Option, Some, None, codes}
use Rattle.std.specs.List.{list_any}
use Rattle.planus_syntax.specs.Values.{Name, digits_of, attribute_of}
use Rattle.planus_syntax.specs.declared.value.Path.{Path}
use Rattle.planus_syntax.specs.declared.value.Variant.{Variant}
use Rattle.planus_syntax.specs.declared.value.Enumeration.{Enumeration}
use Rattle.planus_schema.specs.declared.number.Number.{Number}
use Rattle.planus_schema.specs.declared.scalar.Scalar.{Scalar}
use Rattle.planus_schema.specs.Numbers.{fits}
use Rattle.planus_schema.specs.Distinct.{is_in}
use Rattle.planus_resolve.specs.declared.fault.FaultKind.TheVariants as fault
use Rattle.planus_resolve.specs.Names.{is_set, has, listed}
use Rattle.planus_resolve.specs.Enums.{number_said, value_said, same_number}
use Rattle.planus_resolve.specs.Wrong.{Broken, broken, when, first}

-- a base by this name, of this integer type
abbrev pub wrong_integer : Option Scalar → Path → Option Broken
wrong_integer integer p = when (not (is_set integer)) fault.NoIntegerType p.left

-- the variants after those of these names
abbrev pub wrong_names : List Name → List Variant → Option Broken
wrong_names names [] = None
wrong_names names (v ∷ vs) = first (when (is_in names v.name.items) fault.ValueNameTaken v.left)
    (wrong_names (names ++ v.name.items ∷ []) vs)

-- a variant with this value, `None` where it is not below 2^64, after these values
abbrev pub wrong_value : Scalar → List Number → Variant → Option Number → Option Broken
wrong_value s values v None = broken fault.ValueOutOfRange v.left
wrong_value s values v (Some n) = first (when (not (fits s n)) fault.ValueOutOfRange v.left)
    (when (list_any (λ m. same_number m n) values) fault.ValueTaken v.left)

abbrev pub wrong_values : Scalar → Bool → Option Number → List Number → List Variant → Option Broken
wrong_values s flags previous values [] = None
wrong_values s flags previous values (v ∷ vs) =
    let n = number_said previous (digits_of v.value) in
    first (wrong_value s values v (value_said flags n))
    (wrong_values s flags n (values ++ listed (value_said flags n)) vs)

abbrev pub wrong_values_in : Option Scalar → Bool → List Variant → Option Broken
wrong_values_in None flags vs = None
wrong_values_in (Some s) flags vs = wrong_values s flags None [] vs

-- the type, then the names, then the values
abbrev pub wrong_enum : Option Scalar → Enumeration → Option Broken
wrong_enum integer e = first (wrong_integer integer e.base) (first (wrong_names [] e.variants.items)
    (wrong_values_in integer
    (has (codes "bit_flags") (map attribute_of e.attributes.items)) e.variants.items))
