-- Enums: variants that are encoded as their numbers.
use Rattle.std.specs.Prelude.{◌≡◌, ℕ, ◌+◌, ℤ, pos, Bool, nat_eq, nat_le, List, [], ◌∷◌, length}
use Rattle.std.specs.Prelude.{Option, Some, None, IsSome}
use Rattle.std.specs.Prelude.{if◌then◌else◌, Result, Ok, Err, FitsSigned}
use Rattle.std.specs.Int.{Width, w8, w16, w32, w64, byte_len, to_le_bytes, cast_signed}
use Rattle.std.specs.Int.{cast_unsigned}
use Rattle.std.specs.Option.{option_and_then}
use Rattle.std.specs.Ordering.{int_eq}
use Rattle.std.proofs.Common.{refl, sym, subst, ap, ◌∙◌, to_z-of_z}
use Rattle.planus_read.specs.declared.errors.ErrorKind.{ErrorKind}
use Rattle.planus_read.specs.declared.errors.ErrorKind.TheVariants.{UnknownEnumTag}
use Rattle.planus_read.specs.declared.located.Error.{Error}
use Rattle.planus_read.specs.Bytes.{Num}
use Rattle.planus_read.specs.Clauses.{clause}
use Rattle.planus_read.specs.Plain.{IsLayout, NumberFits, Shape}
use Rattle.planus_read.specs.Reading.{number}
use Rattle.planus_read.specs.lemmas.EnumLaws.{is_some, is_found, same_value}
use Rattle.planus_read.specs.lemmas.NumberLaws.{AreBytes, one_byte, two_bytes, four_bytes}
use Rattle.planus_read.specs.lemmas.NumberLaws.{eight_bytes}
use Rattle.planus_read.specs.lemmas.NumberLaws.{layout_of_one, layout_of_two, layout_of_four}
use Rattle.planus_read.specs.lemmas.NumberLaws.{layout_of_eight, bytes_number, stood_by}

abbrev pub variant_in : {E N : Type 0} → (N → N → Bool) → List (N × E) → N → Option E
variant_in equal [] n = None
variant_in equal (one ∷ others) n = if equal n one.0 then Some one.1 else variant_in equal others n

pub record Numbered {E N : Type 0} (equal : N → N → Bool) (variants : List (N × E)) (x : E)
    : Type 0 where
  pub number : N
  pub found : variant_in equal variants number ≡ Some x

-- a variant is `bits` of its number
abbrev pub enum_shape :
    {E N : Type 0} (width : Width) → AreBytes width → IsLayout (byte_len width) (byte_len width)
    → (bits : N → ℕ) (read_as : ℕ → N) (Fits : N → Type 0)
    → ((n : N) → Fits n → NumberFits width (bits n)) → ((n : N) → Fits n → read_as (bits n) ≡ n)
    → (tag : N → ℤ) (equal : N → N → Bool) (variants : List (N × E))
    → ((x : E) → Numbered equal variants x) → Shape E (byte_len width) (byte_len width)
enum_shape {E} {N} width are layout bits read_as Fits few again tag equal variants numbers =
    record {
      encoded = λ x. to_le_bytes width (bits (numbers x).number);
      fits = λ x. Fits (numbers x).number;
      There = λ S f x.
          option_and_then (λ n. variant_in equal variants (read_as n)) (Num S f width) ≡ Some x;
      clauses = λ S f.
          clause (IsSome (variant_in equal variants (read_as (number S f width))))
          (UnknownEnumTag (record { tag = tag (read_as (number S f width)) })) ∷ [];
      layout = layout;
      sized = λ x. are.sized (bits (numbers x).number);
      holds = λ S f x fits stands. (
        (let same : read_as (number S f width) ≡ (numbers x).number =
            ap read_as (bytes_number width are S f (bits (numbers x).number)
            (few (numbers x).number fits) stands)
            ∙ again (numbers x).number fits in
            subst (λ (v : Option E). IsSome v)
            (sym (ap (variant_in equal variants) same ∙ (numbers x).found)) (is_some x)),
        tt,
      );
      again = λ S f x y fits stands there.
          (let stood : variant_in equal variants (read_as (bits (numbers x).number)) ≡ Some y =
          stood_by (λ n. variant_in equal variants (read_as n)) width are S f
          (bits (numbers x).number)
          y
          (few (numbers x).number fits) stands there in
          same_value
          (sym stood ∙ ap (variant_in equal variants) (again (numbers x).number fits)
          ∙ (numbers x).found));
      unbroken = λ S f x there. (
        (is_found x (nat_le (f + byte_len width) (length S)) (number S f width)
            (λ n. variant_in equal variants (read_as n)) there),
        tt,
      );
    }

abbrev pub unsigned_enum :
    {E : Type 0} (width : Width) → AreBytes width → IsLayout (byte_len width) (byte_len width)
    → (variants : List (ℕ × E)) → ((x : E) → Numbered nat_eq variants x)
    → Shape E (byte_len width) (byte_len width)
unsigned_enum width are layout =
    enum_shape width are layout (λ n. n) (λ n. n) (NumberFits width) (λ n fits. fits)
    (λ n fits. refl) (λ n. pos n) nat_eq

abbrev pub signed_enum :
    {E : Type 0} (width : Width) → AreBytes width → IsLayout (byte_len width) (byte_len width)
    → (variants : List (ℤ × E)) → ((x : E) → Numbered int_eq variants x)
    → Shape E (byte_len width) (byte_len width)
signed_enum width are layout =
    enum_shape width are layout (cast_unsigned width) (cast_signed width) (FitsSigned width)
    are.unsigned (λ z fits. to_z-of_z fits) (λ z. z) int_eq

abbrev pub u8_enum :
    {E : Type 0} {variants : List (ℕ × E)} → ((x : E) → Numbered nat_eq variants x) → Shape E 1 1
u8_enum {E} {variants} = unsigned_enum w8 one_byte layout_of_one variants

abbrev pub u16_enum :
    {E : Type 0} {variants : List (ℕ × E)} → ((x : E) → Numbered nat_eq variants x) → Shape E 2 2
u16_enum {E} {variants} = unsigned_enum w16 two_bytes layout_of_two variants

abbrev pub u32_enum :
    {E : Type 0} {variants : List (ℕ × E)} → ((x : E) → Numbered nat_eq variants x) → Shape E 4 4
u32_enum {E} {variants} = unsigned_enum w32 four_bytes layout_of_four variants

abbrev pub u64_enum :
    {E : Type 0} {variants : List (ℕ × E)} → ((x : E) → Numbered nat_eq variants x) → Shape E 8 8
u64_enum {E} {variants} = unsigned_enum w64 eight_bytes layout_of_eight variants

abbrev pub i8_enum :
    {E : Type 0} {variants : List (ℤ × E)} → ((x : E) → Numbered int_eq variants x) → Shape E 1 1
i8_enum {E} {variants} = signed_enum w8 one_byte layout_of_one variants

abbrev pub i16_enum :
    {E : Type 0} {variants : List (ℤ × E)} → ((x : E) → Numbered int_eq variants x) → Shape E 2 2
i16_enum {E} {variants} = signed_enum w16 two_bytes layout_of_two variants

abbrev pub i32_enum :
    {E : Type 0} {variants : List (ℤ × E)} → ((x : E) → Numbered int_eq variants x) → Shape E 4 4
i32_enum {E} {variants} = signed_enum w32 four_bytes layout_of_four variants

abbrev pub i64_enum :
    {E : Type 0} {variants : List (ℤ × E)} → ((x : E) → Numbered int_eq variants x) → Shape E 8 8
i64_enum {E} {variants} = signed_enum w64 eight_bytes layout_of_eight variants

abbrev pub unless_unknown : {A : Type 0} → ErrorKind → A → Error → Result A Error
unless_unknown (UnknownEnumTag source) other e = Ok other
unless_unknown kind other e = Err e

-- what was read, or another value
abbrev pub known_or : {A : Type 0} → A → Result A Error → Result A Error
known_or other (Ok x) = Ok x
known_or other (Err e) = unless_unknown e.error_kind other e
