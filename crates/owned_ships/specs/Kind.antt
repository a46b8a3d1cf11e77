-- The numbers of `Kind`.
use Rattle.std.specs.Prelude.{◌∷◌, [], ℕ, List, nat_eq}
use Rattle.planus.specs.Printed.{Numbered, u8_enum, Shape}
use Rattle.std.proofs.Common.{refl}
use Rattle.owned_ships.specs.declared.kind.Kind.TheVariants as kind_value
use Rattle.owned_ships.specs.declared.kind.Kind.{Kind}

-- its variants by their numbers
abbrev pub kind_values : List (ℕ × Kind)
kind_values = (0, kind_value.Car) ∷ (1, kind_value.Bike) ∷ (2, kind_value.Ship) ∷ []

abbrev pub kind_is : (x : Kind) → Numbered nat_eq kind_values x
kind_is kind_value.Car = record { number = 0; found = refl }
kind_is kind_value.Bike = record { number = 1; found = refl }
kind_is kind_value.Ship = record { number = 2; found = refl }

abbrev pub kind_shape : Shape Kind 1 1
kind_shape = u8_enum kind_is
