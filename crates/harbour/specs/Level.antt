-- The numbers of `Level`.
use Rattle.std.specs.Prelude.{◌∷◌, [], ℤ, List, pos, negsuc}
use Rattle.std.specs.Ordering.{int_eq}
use Rattle.planus.specs.Printed.{Numbered, i16_enum, Shape}
use Rattle.std.proofs.Common.{refl}
use Rattle.harbour.specs.declared.level.Level.TheVariants as level_value
use Rattle.harbour.specs.declared.level.Level.{Level}

-- its variants by their numbers
abbrev pub level_values : List (ℤ × Level)
level_values = (negsuc 299, level_value.Low) ∷ (pos 0, level_value.Mid) ∷
    (pos 300, level_value.High) ∷ []

abbrev pub level_is : (x : Level) → Numbered int_eq level_values x
level_is level_value.Low = record { number = negsuc 299; found = refl }
level_is level_value.Mid = record { number = pos 0; found = refl }
level_is level_value.High = record { number = pos 300; found = refl }

abbrev pub level_shape : Shape Level 2 2
level_shape = i16_enum level_is
