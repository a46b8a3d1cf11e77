-- The numbers of `Signal`.
use Rattle.std.specs.Prelude.{◌≡◌, ◌∷◌, [], ℤ, List, pos, Some}
use Rattle.std.specs.Ordering.{int_eq}
use Rattle.planus.specs.Printed.{Numbered, variant_in, i8_enum, Shape}
use Rattle.std.proofs.Common.{refl}
use Rattle.harbour.specs.declared.signal.Signal.TheVariants as signal_value
use Rattle.harbour.specs.declared.signal.Signal.{Signal}

-- its variants by their numbers, from some on
unfoldable pub from_20_on : List (ℤ × Signal)
from_20_on = (pos 20, signal_value.Uniform) ∷ (pos 21, signal_value.Victor) ∷
    (pos 22, signal_value.Whiskey) ∷ (pos 23, signal_value.Xray) ∷ (pos 24, signal_value.Yankee) ∷
    (pos 25, signal_value.Zulu) ∷ []

unfoldable pub from_10_on : List (ℤ × Signal)
from_10_on = (pos 10, signal_value.Kilo) ∷ (pos 11, signal_value.Lima) ∷
    (pos 12, signal_value.Mike) ∷ (pos 13, signal_value.November) ∷ (pos 14, signal_value.Oscar) ∷
    (pos 15, signal_value.Papa) ∷ (pos 16, signal_value.Quebec) ∷ (pos 17, signal_value.Romeo) ∷
    (pos 18, signal_value.Sierra) ∷ (pos 19, signal_value.Tango) ∷ from_20_on

unfoldable pub from_0_on : List (ℤ × Signal)
from_0_on = (pos 0, signal_value.Alfa) ∷ (pos 1, signal_value.Bravo) ∷
    (pos 2, signal_value.Charlie) ∷ (pos 3, signal_value.Delta) ∷ (pos 4, signal_value.Echo) ∷
    (pos 5, signal_value.Foxtrot) ∷ (pos 6, signal_value.Golf) ∷ (pos 7, signal_value.Hotel) ∷
    (pos 8, signal_value.India) ∷ (pos 9, signal_value.Juliett) ∷ from_10_on

abbrev pub signal_number : Signal → ℤ
signal_number signal_value.Alfa = pos 0
signal_number signal_value.Bravo = pos 1
signal_number signal_value.Charlie = pos 2
signal_number signal_value.Delta = pos 3
signal_number signal_value.Echo = pos 4
signal_number signal_value.Foxtrot = pos 5
signal_number signal_value.Golf = pos 6
signal_number signal_value.Hotel = pos 7
signal_number signal_value.India = pos 8
signal_number signal_value.Juliett = pos 9
signal_number signal_value.Kilo = pos 10
signal_number signal_value.Lima = pos 11
signal_number signal_value.Mike = pos 12
signal_number signal_value.November = pos 13
signal_number signal_value.Oscar = pos 14
signal_number signal_value.Papa = pos 15
signal_number signal_value.Quebec = pos 16
signal_number signal_value.Romeo = pos 17
signal_number signal_value.Sierra = pos 18
signal_number signal_value.Tango = pos 19
signal_number signal_value.Uniform = pos 20
signal_number signal_value.Victor = pos 21
signal_number signal_value.Whiskey = pos 22
signal_number signal_value.Xray = pos 23
signal_number signal_value.Yankee = pos 24
signal_number signal_value.Zulu = pos 25

pub signal_found : (x : Signal) → variant_in int_eq from_0_on (signal_number x) ≡ Some x
unfolding from_0_on from_10_on from_20_on
signal_found signal_value.Alfa = refl
signal_found signal_value.Bravo = refl
signal_found signal_value.Charlie = refl
signal_found signal_value.Delta = refl
signal_found signal_value.Echo = refl
signal_found signal_value.Foxtrot = refl
signal_found signal_value.Golf = refl
signal_found signal_value.Hotel = refl
signal_found signal_value.India = refl
signal_found signal_value.Juliett = refl
signal_found signal_value.Kilo = refl
signal_found signal_value.Lima = refl
signal_found signal_value.Mike = refl
signal_found signal_value.November = refl
signal_found signal_value.Oscar = refl
signal_found signal_value.Papa = refl
signal_found signal_value.Quebec = refl
signal_found signal_value.Romeo = refl
signal_found signal_value.Sierra = refl
signal_found signal_value.Tango = refl
signal_found signal_value.Uniform = refl
signal_found signal_value.Victor = refl
signal_found signal_value.Whiskey = refl
signal_found signal_value.Xray = refl
signal_found signal_value.Yankee = refl
signal_found signal_value.Zulu = refl

abbrev pub signal_is : (x : Signal) → Numbered int_eq from_0_on x
signal_is x = record { number = signal_number x; found = signal_found x }

abbrev pub signal_shape : Shape Signal 1 1
signal_shape = i8_enum signal_is
