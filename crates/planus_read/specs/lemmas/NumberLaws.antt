-- Laws for numbers and their bytes.
use Rattle.std.specs.Prelude.{◌≡◌, ℕ, ◌+◌, ℤ, List, [], ◌∷◌, length, take, drop, Bool, true, false}
use Rattle.std.specs.Prelude.{not, ◌==◌, Option, Some, None, nat_le, if◌then◌else◌, FitsSigned}
use Rattle.std.specs.Int.{Width, w8, w16, w32, w64, byte_len, to_le_bytes, from_le_bytes}
use Rattle.std.specs.Int.{cast_unsigned, from_bool}
use Rattle.std.specs.Option.{option_map, option_and_then}
use Rattle.std.proofs.Common.{refl, sym, ap, ◌∙◌, lit≤, lit<}
use Rattle.std.proofs.Math.Facts.{Fits-of_z}
use Rattle.std.proofs.Math.Nat.{mod-eq_of_lt, dvd-mul_left}
use Rattle.std.proofs.lemmas.Nat.{from_le_bytes-to_le_bytes_2, from_le_bytes-to_le_bytes_4}
use Rattle.std.proofs.lemmas.Nat.{from_le_bytes-to_le_bytes_8}
use Rattle.planus_read.specs.Bytes.{Num, BytesStand}
use Rattle.planus_read.specs.Plain.{IsLayout, NumberFits}
use Rattle.planus_read.specs.Reading.{number, NumberThere}

pub layout_of_one : IsLayout 1 1
layout_of_one =
    record { power = (0, lit≤ tt, refl); positive = lit< tt; multiple = dvd-mul_left 1 1 }

pub layout_of_two : IsLayout 2 2
layout_of_two =
    record { power = (1, lit≤ tt, refl); positive = lit< tt; multiple = dvd-mul_left 2 1 }

pub layout_of_four : IsLayout 4 4
layout_of_four =
    record { power = (2, lit≤ tt, refl); positive = lit< tt; multiple = dvd-mul_left 4 1 }

pub layout_of_eight : IsLayout 8 8
layout_of_eight =
    record { power = (3, lit≤ tt, refl); positive = lit< tt; multiple = dvd-mul_left 8 1 }

pub record AreBytes (width : Width) : Type 0 where
  pub sized : (n : ℕ) → length (to_le_bytes width n) ≡ byte_len width
  pub again : (n : ℕ) → NumberFits width n → from_le_bytes width (to_le_bytes width n) ≡ n
  pub unsigned : (z : ℤ) → FitsSigned width z → NumberFits width (cast_unsigned width z)

pub one_byte : AreBytes w8
one_byte = record {
  sized = λ n. refl;
  again = λ n may. mod-eq_of_lt may;
  unsigned = λ z may. (Fits-of_z may).fits;
}

pub two_bytes : AreBytes w16
two_bytes = record {
  sized = λ n. refl;
  again = from_le_bytes-to_le_bytes_2;
  unsigned = λ z may. (Fits-of_z may).fits;
}

pub four_bytes : AreBytes w32
four_bytes = record {
  sized = λ n. refl;
  again = from_le_bytes-to_le_bytes_4;
  unsigned = λ z may. (Fits-of_z may).fits;
}

pub eight_bytes : AreBytes w64
eight_bytes = record {
  sized = λ n. refl;
  again = from_le_bytes-to_le_bytes_8;
  unsigned = λ z may. (Fits-of_z may).fits;
}

chosen : (b : Bool) (x n : ℕ) → (if b then Some x else None) ≡ Some n → n ≡ x
chosen true x n e = cc
chosen false x n e = absurd (let f : None ≡ Some n = e in cc)

pub bytes_number : (width : Width) → AreBytes width → (S : List ℕ) (f n : ℕ) → NumberFits width n
    → BytesStand S f (to_le_bytes width n) → number S f width ≡ n
bytes_number width are S f n fits stands =
    let bytes : take (byte_len width) (drop f S) ≡ to_le_bytes width n =
    ap (λ k. take k (drop f S)) (sym (are.sized n)) ∙ stands in
    ap (from_le_bytes width) bytes ∙ are.again n fits

pub stood : (width : Width) → AreBytes width → (S : List ℕ) (f n m : ℕ) → NumberFits width n
    → BytesStand S f (to_le_bytes width n) → NumberThere S f width m → m ≡ n
stood width are S f n m fits stands there =
    chosen (nat_le (f + byte_len width) (length S)) (number S f width) m there
    ∙ bytes_number width are S f n fits stands

pub stood_as : {A : Type 0} (g : ℕ → A) (width : Width) → AreBytes width
    → (S : List ℕ) (f n : ℕ) (y : A)
    → NumberFits width n → BytesStand S f (to_le_bytes width n)
    → option_map g (Num S f width) ≡ Some y → y ≡ g n
stood_as {A} g width are S f n y fits stands there = at (Num S f width) refl there
  where
    at : (m : Option ℕ) → Num S f width ≡ m → option_map g m ≡ Some y → y ≡ g n
    at None e h = absurd (let f : None ≡ Some y = h in cc)
    at (Some m) e h =
        let same : y ≡ g m = cc in same ∙ ap g (stood width are S f n m fits stands e)

pub stood_by : {A : Type 0} (g : ℕ → Option A) (width : Width) → AreBytes width
    → (S : List ℕ) (f n : ℕ) (y : A)
    → NumberFits width n → BytesStand S f (to_le_bytes width n)
    → option_and_then g (Num S f width) ≡ Some y → g n ≡ Some y
stood_by {A} g width are S f n y fits stands there = at (Num S f width) refl there
  where
    at : (m : Option ℕ) → Num S f width ≡ m → option_and_then g m ≡ Some y → g n ≡ Some y
    at None e h = absurd (let f : None ≡ Some y = h in cc)
    at (Some m) e h = ap g (sym (stood width are S f n m fits stands e)) ∙ h

pub is_byte : (truth : Bool) → not (from_bool truth == 0) ≡ truth
is_byte true = refl
is_byte false = refl

pub truth_fits : (truth : Bool) → NumberFits w8 (from_bool truth)
truth_fits true = lit< tt
truth_fits false = lit< tt

pub truth_bytes : (truth : Bool) → to_le_bytes w8 (from_bool truth) ≡ from_bool truth ∷ []
truth_bytes true = refl
truth_bytes false = refl

pub one_byte_is : (n : ℕ) → NumberFits w8 n → to_le_bytes w8 n ≡ n ∷ []
one_byte_is n may = ap (λ byte. byte ∷ []) (mod-eq_of_lt may)
