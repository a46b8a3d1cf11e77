-- The numbers of the kinds.
use Rattle.std.specs.Prelude.{nat_eq, [], ◌∷◌}
use Rattle.std.proofs.Common.{refl}
use Rattle.planus.specs.read.Enums.{Numbered, u8_enum}
use Rattle.planus.specs.read.Plain.{Shape}
use Rattle.by_hand.specs.declared.kind.Kind.{Kind}
use Rattle.by_hand.specs.declared.kind.Kind.TheVariants.{Car, Bike, Ship}

abbrev pub kind_is : (kind : Kind) → Numbered nat_eq ((0, Car) ∷ (1, Bike) ∷ (2, Ship) ∷ []) kind
kind_is Car = record { number = 0; found = refl }
kind_is Bike = record { number = 1; found = refl }
kind_is Ship = record { number = 2; found = refl }

abbrev pub kind_shape : Shape Kind 1 1
kind_shape = u8_enum kind_is
