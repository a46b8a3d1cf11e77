-- The numbers of `Gear`.
use Rattle.std.specs.Prelude.{◌∷◌, [], ℤ, List, pos}
use Rattle.std.specs.Ordering.{int_eq}
use Rattle.planus.specs.Printed.{Numbered, i8_enum, Shape}
use Rattle.std.proofs.Common.{refl}
use Rattle.quay.specs.declared.gear.Gear.TheVariants as gear_value
use Rattle.quay.specs.declared.gear.Gear.{Gear}

-- its variants by their numbers
abbrev pub gear_values : List (ℤ × Gear)
gear_values = (pos 0, gear_value.Hook) ∷ (pos 1, gear_value.Grab) ∷ (pos 2, gear_value.Magnet) ∷
    (pos 100, gear_value.other_) ∷ []

abbrev pub gear_is : (x : Gear) → Numbered int_eq gear_values x
gear_is gear_value.Hook = record { number = pos 0; found = refl }
gear_is gear_value.Grab = record { number = pos 1; found = refl }
gear_is gear_value.Magnet = record { number = pos 2; found = refl }
gear_is gear_value.other_ = record { number = pos 100; found = refl }

abbrev pub gear_shape : Shape Gear 1 1
gear_shape = i8_enum gear_is
