-- Floats that are read.
use Rattle.std.proofs.Common.{◌≡◌, ℕ, Bool, true, false, List, refl, sym, ap, ◌∙◌, Option, Some, None}
use Rattle.std.specs.Prelude.{to_bits, if◌then◌else◌}
use Rattle.std.specs.Float.Parse.{parse_float}
use Rattle.std.specs.Option.{option_map}
use Rattle.std.specs.Str.{IsUtf8, is_utf8}
use Rattle.std.proofs.lemmas.Str.{IsUtf8-from_is_utf8, is_utf8-from_IsUtf8}
use Rattle.planus_conform.specs.Floats.{bits_in}
use lib.Ieee.{Float, Format}

read : (f : Format) (w : List ℕ) (o : Option Float) → IsUtf8 w → parse_float f w ≡ o → bits_in f w ≡ option_map (to_bits f) o
read f w o utf is =
    ap (λ b. if b then option_map (to_bits f) (parse_float f w) else None) (is_utf8-from_IsUtf8 w utf)
    ∙ ap (option_map (to_bits f)) is

pub read_bits : (f : Format) (w u : List ℕ) (x : Float) (n : ℕ) → u ≡ w → IsUtf8 w → parse_float f u ≡ Some x → n ≡ to_bits f x → Some n ≡ bits_in f w
read_bits f w u x n same utf parsed is =
    ap Some is ∙ sym (read f w (Some x) utf (ap (parse_float f) (sym same) ∙ parsed))

pub no_float : (f : Format) (w u : List ℕ) → u ≡ w → IsUtf8 w → parse_float f u ≡ None → None ≡ bits_in f w
no_float f w u same utf parsed = sym (read f w None utf (ap (parse_float f) (sym same) ∙ parsed))

pub no_text : (f : Format) (w : List ℕ) → (IsUtf8 w → ⊥) → None ≡ bits_in f w
no_text f w not_text = by_test (is_utf8 w) refl
  where
    by_test : (b : Bool) → is_utf8 w ≡ b → None ≡ (if b then option_map (to_bits f) (parse_float f w) else None)
    by_test true e = absurd (not_text (IsUtf8-from_is_utf8 w e))
    by_test false e = refl
