-- The constants of defaults.
use Rattle.std.specs.Prelude.{ℕ, Bool, true, false, ◌&&◌, not, List, [], ◌∷◌, codes, Option, Some}
use Rattle.std.specs.Prelude.{None, if◌then◌else◌}
use Rattle.planus_schema.specs.declared.schema.Base.{Base}
use Rattle.planus_schema.specs.declared.schema.Base.TheVariants as base
use Rattle.planus_schema.specs.declared.schema.Value.{Value}
use Rattle.planus_schema.specs.declared.schema.Value.TheVariants as value
use Rattle.planus_schema.specs.Plans.{LineV}
use Rattle.planus_tie.specs.Bare.{bare}
use Rattle.planus_tie.specs.Holes.{filled}
use Rattle.planus_tie.specs.Reading.{after}
use Rattle.planus_tie.specs.Views.{is_constant}
use Rattle.planus_tie.specs.Wanted.{has_default, default_number}
use Rattle.planus_tie.specs.declared.holes.Holes.{Holes}
use Rattle.planus_tie.specs.declared.naming.Naming.{Naming}

-- of a field and its default
abbrev pub default_holes : LineV → Holes
default_holes l = record {
  index = l.table;
  place = l.place;
  base = l.field.kind.base;
  number = default_number l.field.default;
  size = 0;
  alignment = 0;
  count = None;
  padding = 0;
}

abbrev pub is_float_text : Option Value → Bool
is_float_text (Some (value.Float text)) = true
is_float_text v = false

-- the default is a constant, and an integer in the schema
abbrev pub is_counted : Naming → LineV → Bool
is_counted n l = has_default l.field && is_constant n l.field.kind.base
    && not (is_float_text l.field.default)

-- of flags, or of a float
abbrev pub constant_text : Base → List ℕ
constant_text (base.Enum i) = codes "pub const DEFAULT_$N: $b = $b { bits: $i };"
constant_text b = codes "pub const DEFAULT_$N: $b = $i.0;"

-- what follows a field's constant
abbrev pub constant_after : Naming → LineV → List ℕ → Option (List ℕ)
constant_after n l text = if is_counted n l
    then after (bare (filled n (default_holes l) (constant_text l.field.kind.base))) text
    else Some text

-- each such field has its constant, one after the other
abbrev pub have_constants : Naming → Option (List ℕ) → List LineV → Bool
have_constants n None ls = false
have_constants n (Some text) [] = true
have_constants n (Some text) (l ∷ ls) = have_constants n (constant_after n l text) ls
