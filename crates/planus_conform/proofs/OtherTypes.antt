-- What eight bytes show of each scalar type.
use Rattle.std.proofs.Common.{◌≡◌, ℕ, Bool, true, false, List, refl, sym, ap, ◌∙◌, inl, inr}
use Rattle.std.specs.Prelude.{◌*◌, ◌==◌, ◌||◌, codes, if◌then◌else◌}
use Rattle.std.specs.Fmt.{digits}
use Rattle.std.specs.Str.{bytes_eq}
use Rattle.std.proofs.lemmas.Bool.{eq-eqb}
use Rattle.planus_schema.specs.declared.scalar.Scalar.{Scalar}
use Rattle.planus_schema.specs.declared.scalar.Scalar.TheVariants as scalar
use Rattle.planus_schema.specs.declared.schema.Base.TheVariants as base
use Rattle.planus_schema.specs.Numbers.{scalar_size}
use Rattle.planus_schema.specs.declared.schema.Declared.{Declared}
use Rattle.planus_conform.specs.declared.breaks.Way.{Way}
use Rattle.planus_conform.specs.declared.breaks.Way.TheVariants as way
use Rattle.planus_conform.specs.Found.{Found, shown, bits, items}
use Rattle.planus_conform.specs.Values.{scalar_found}
use Rattle.planus_conform.specs.Alike.{Same, is_excused}
use Rattle.planus_conform.specs.Types.{scalar_code}
use Rattle.planus_conform.specs.Witnesses.{eight_bytes, TypesShow}

abbrev value : Scalar → Found
value s = scalar_found s eight_bytes.bytes (0 * scalar_size s)

-- the code of the type of which the bytes show this
abbrev shown_code : List ℕ → ℕ
shown_code w = if bytes_eq w (codes "true") then 0 else if bytes_eq w (codes "-127") then 1
    else if bytes_eq w (codes "129") then 2 else if bytes_eq w (codes "-32127") then 3
    else if bytes_eq w (codes "33409") then 4 else if bytes_eq w (codes "-2071756159") then 5
    else if bytes_eq w (codes "2223211137") then 6
    else if bytes_eq w (codes "-8608764254683430271") then 7 else 8

abbrev code_of : Found → ℕ
code_of (shown w) = shown_code w
code_of (bits n) = if n == 2223211137 then 9 else 10
code_of x = 11

has_code : (s : Scalar) → code_of (value s) ≡ scalar_code s
unfolding digits
has_code scalar.Bool = refl
has_code scalar.Byte = refl
has_code scalar.UByte = refl
has_code scalar.Short = refl
has_code scalar.UShort = refl
has_code scalar.Int = refl
has_code scalar.UInt = refl
has_code scalar.Long = refl
has_code scalar.ULong = refl
has_code scalar.Float = refl
has_code scalar.Double = refl

abbrev is_value : Found → Bool
is_value (shown w) = true
is_value (bits n) = true
is_value x = false

values_are : (s : Scalar) → is_value (value s) ≡ true
values_are scalar.Bool = refl
values_are scalar.Byte = refl
values_are scalar.UByte = refl
values_are scalar.Short = refl
values_are scalar.UShort = refl
values_are scalar.Int = refl
values_are scalar.UInt = refl
values_are scalar.Long = refl
values_are scalar.ULong = refl
values_are scalar.Float = refl
values_are scalar.Double = refl

not_excused : (w : Way) (x y : Found) → is_value x ≡ true → is_value y ≡ true → is_excused w x y ≡ false
not_excused way.Both (shown a) (shown b) k l = refl
not_excused way.Both (shown a) (bits b) k l = refl
not_excused way.Both (bits a) (shown b) k l = refl
not_excused way.Both (bits a) (bits b) k l = refl
not_excused way.Backward (shown a) (shown b) k l = refl
not_excused way.Backward (shown a) (bits b) k l = refl
not_excused way.Backward (bits a) (shown b) k l = refl
not_excused way.Backward (bits a) (bits b) k l = refl
not_excused way.Forward (shown a) (shown b) k l = refl
not_excused way.Forward (shown a) (bits b) k l = refl
not_excused way.Forward (bits a) (shown b) k l = refl
not_excused way.Forward (bits a) (bits b) k l = refl
not_excused w x y k l = absurd cc

same_code : (x y : Found) → is_value x ≡ true → Same x y → code_of x ≡ code_of y
same_code (shown a) y k s = ap code_of s
same_code (bits a) y k s = ap code_of s
same_code x y k s = absurd cc

vectors_not_excused : (w : Way) (s t : Scalar) → is_excused w (items (base.Scalar s) eight_bytes) (items (base.Scalar t) eight_bytes) ≡ false
vectors_not_excused way.Both s t = refl
vectors_not_excused way.Backward s t = refl
vectors_not_excused way.Forward s t = refl

neither : (a b : Bool) → (a || b) ≡ true → a ≡ false → b ≡ false → ⊥
neither true b e k l = absurd cc
neither false true e k l = absurd cc
neither false false e k l = absurd cc

pub types_show : (w : Way) (old new : List Declared) → TypesShow w old new
types_show w old new s t differ (inl e) =
    neither (is_excused w (items (base.Scalar s) eight_bytes) (items (base.Scalar t) eight_bytes)) (is_excused w (value s) (value t)) e
    (vectors_not_excused w s t) (not_excused w (value s) (value t) (values_are s) (values_are t))
types_show w old new s t differ (inr same) =
    let one : scalar_code s ≡ scalar_code t = sym (has_code s) ∙ same_code (value s) (value t) (values_are s) same ∙ has_code t in
    neither false true refl refl (sym (eq-eqb (scalar_code s) (scalar_code t) one) ∙ differ)
