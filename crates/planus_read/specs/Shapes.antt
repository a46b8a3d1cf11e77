-- The shapes of numbers, bools, floats and arrays.
use Rattle.std.specs.Prelude.{ℕ, ◌*◌, ◌<◌, List, [], ◌∷◌, Bool, ◌==◌, not, ℤ, FitsSigned, ⊤}
use Rattle.std.specs.Prelude.{from_bits, to_bits}
use Rattle.std.specs.Int.{Width, w8, w16, w32, w64, byte_len, to_le_bytes, cast_signed}
use Rattle.std.specs.Int.{cast_unsigned, from_bool}
use Rattle.std.proofs.Common.{refl, sym, subst, ◌∙◌, to_z-of_z}
use lib.Ieee.{Float, Format, binary32, binary64}
use lib.Ieee.Bits.{of_bits-to_bits, to_bits-lt}
use Rattle.planus_read.specs.Arrays.{array_bytes, array_clauses, ArrayThere, ArrayFits}
use Rattle.planus_read.specs.Bytes.{BytesStand}
use Rattle.planus_read.specs.Floats.{FloatFits, FloatThere}
use Rattle.planus_read.specs.Plain.{IsLayout, NumberFits, Shape}
use Rattle.planus_read.specs.Reading.{NumberThere, SignedThere, TruthThere}
use Rattle.planus_read.specs.lemmas.ArrayLaws.{array_layout, array_sized, array_holds}
use Rattle.planus_read.specs.lemmas.ArrayLaws.{array_again, array_unbroken}
use Rattle.planus_read.specs.lemmas.NumberLaws.{AreBytes, one_byte, two_bytes, four_bytes}
use Rattle.planus_read.specs.lemmas.NumberLaws.{eight_bytes}
use Rattle.planus_read.specs.lemmas.NumberLaws.{layout_of_one, layout_of_two, layout_of_four}
use Rattle.planus_read.specs.lemmas.NumberLaws.{layout_of_eight, stood, stood_as, is_byte}
use Rattle.planus_read.specs.lemmas.NumberLaws.{truth_fits}
use Rattle.planus_read.specs.lemmas.NumberLaws.{truth_bytes, one_byte_is}

abbrev pub unsigned_shape : (width : Width) → AreBytes width
    → IsLayout (byte_len width) (byte_len width) → Shape ℕ (byte_len width) (byte_len width)
unsigned_shape width are layout = record {
  encoded = λ n. to_le_bytes width n;
  fits = NumberFits width;
  There = λ S f n. NumberThere S f width n;
  clauses = λ S f. [];
  layout = layout;
  sized = are.sized;
  holds = λ S f n fits stands. tt;
  again = λ S f n m fits stands there. stood width are S f n m fits stands there;
  unbroken = λ S f x there. tt;
}

abbrev pub signed_shape : (width : Width) → AreBytes width
    → IsLayout (byte_len width) (byte_len width) → Shape ℤ (byte_len width) (byte_len width)
signed_shape width are layout = record {
  encoded = λ z. to_le_bytes width (cast_unsigned width z);
  fits = FitsSigned width;
  There = λ S f z. SignedThere S f width z;
  clauses = λ S f. [];
  layout = layout;
  sized = λ z. are.sized (cast_unsigned width z);
  holds = λ S f z fits stands. tt;
  again = λ S f z y fits stands there.
      stood_as (cast_signed width) width are S f (cast_unsigned width z) y (are.unsigned z fits)
      stands
      there
      ∙ to_z-of_z fits;
  unbroken = λ S f x there. tt;
}

abbrev pub float_shape : (width : Width) (format : Format) → AreBytes width
    → ((x : Float) → FloatFits format x → NumberFits width (to_bits format x))
    → IsLayout (byte_len width) (byte_len width) → Shape Float (byte_len width) (byte_len width)
float_shape width format are small layout = record {
  encoded = λ x. to_le_bytes width (to_bits format x);
  fits = FloatFits format;
  There = λ S f x. FloatThere S f width format x;
  clauses = λ S f. [];
  layout = layout;
  sized = λ x. are.sized (to_bits format x);
  holds = λ S f x fits stands. tt;
  again = λ S f x y fits stands there.
      stood_as (from_bits format) width are S f (to_bits format x) y (small x fits) stands there
      ∙ of_bits-to_bits format x fits;
  unbroken = λ S f x there. tt;
}

abbrev pub u8_shape : Shape ℕ 1 1
u8_shape = unsigned_shape w8 one_byte layout_of_one

abbrev pub u16_shape : Shape ℕ 2 2
u16_shape = unsigned_shape w16 two_bytes layout_of_two

abbrev pub u32_shape : Shape ℕ 4 4
u32_shape = unsigned_shape w32 four_bytes layout_of_four

abbrev pub u64_shape : Shape ℕ 8 8
u64_shape = unsigned_shape w64 eight_bytes layout_of_eight

-- a byte holds the number itself
abbrev pub i8_shape : Shape ℤ 1 1
i8_shape = record {
  encoded = λ z. cast_unsigned w8 z ∷ [];
  fits = FitsSigned w8;
  There = λ S f z. SignedThere S f w8 z;
  clauses = λ S f. [];
  layout = layout_of_one;
  sized = λ z. refl;
  holds = λ S f z fits stands. tt;
  again = λ S f z y fits stands there.
      (let may = one_byte.unsigned z fits in
      stood_as (cast_signed w8) w8 one_byte S f (cast_unsigned w8 z) y may
      (subst (λ bytes. BytesStand S f bytes) (sym (one_byte_is (cast_unsigned w8 z) may)) stands)
      there
      ∙ to_z-of_z fits);
  unbroken = λ S f x there. tt;
}

abbrev pub i16_shape : Shape ℤ 2 2
i16_shape = signed_shape w16 two_bytes layout_of_two

abbrev pub i32_shape : Shape ℤ 4 4
i32_shape = signed_shape w32 four_bytes layout_of_four

abbrev pub i64_shape : Shape ℤ 8 8
i64_shape = signed_shape w64 eight_bytes layout_of_eight

-- 0 or 1, of which each but 0 is read as true
abbrev pub bool_shape : Shape Bool 1 1
bool_shape = record {
  encoded = λ truth. from_bool truth ∷ [];
  fits = λ truth. ⊤;
  There = λ S f truth. TruthThere S f truth;
  clauses = λ S f. [];
  layout = layout_of_one;
  sized = λ truth. refl;
  holds = λ S f truth fits stands. tt;
  again = λ S f truth y fits stands there.
      stood_as (λ n. not (n == 0)) w8 one_byte S f (from_bool truth) y (truth_fits truth)
      (subst (λ bytes. BytesStand S f bytes) (sym (truth_bytes truth)) stands) there
      ∙ is_byte truth;
  unbroken = λ S f x there. tt;
}

abbrev pub f32_shape : Shape Float 4 4
f32_shape = float_shape w32 binary32 four_bytes (to_bits-lt binary32) layout_of_four

abbrev pub f64_shape : Shape Float 8 8
f64_shape = float_shape w64 binary64 eight_bytes (to_bits-lt binary64) layout_of_eight

-- The format: `[T:n]`, of the alignment of its items.
abbrev pub array_shape :
    {A : Type 0} {size alignment : ℕ} (n : ℕ) → 0 < n → Shape A size alignment
    → Shape (List A) (n * size) alignment
array_shape n some shape = record {
  encoded = array_bytes shape n;
  fits = ArrayFits shape n;
  There = λ S f xs. ArrayThere shape n S f xs;
  clauses = λ S f. array_clauses shape n S f;
  layout = array_layout n some shape.layout;
  sized = λ xs. array_sized shape n xs;
  holds = λ S f xs fits stands. array_holds shape n S f xs fits stands;
  again = λ S f xs ys fits stands there. array_again shape n S f xs ys fits stands there;
  unbroken = λ S f xs there. array_unbroken shape n S f xs there;
}
