use Rattle.std.proofs.Common.{◌≡◌, ◌≢◌, ℕ, List, [], ◌∷◌, ◌+◌, ◌*◌, length, refl, arith, min}
use Rattle.std.specs.List.{flat_map}
use Rattle.planus_dump.specs.Lines.{hex_of, bytes_text}
use Rattle.planus_dump.proofs.printed.bytes_size.Goals as goal

digits_length : (bytes : List ℕ) → length (flat_map hex_of bytes) ≡ length bytes * 2
digits_length [] = refl
digits_length (byte ∷ bytes) = omega (arith, digits_length bytes)

text_length : (bytes : List ℕ) → length bytes ≢ 0 → length (bytes_text bytes) ≡ length bytes * 2 + 6
text_length [] some = absurd (some refl)
text_length (byte ∷ bytes) some = omega (arith, digits_length (byte ∷ bytes))

pub returns : goal.returns
returns c =
    let some : length c.args.bytes.now ≢ 0 = grind arith in
    let is : c.saturating_add.result ≡ min (length (bytes_text c.args.bytes.now)) 18446744073709551615 = omega (arith, text_length c.args.bytes.now some, c.saturating_mul.ensures, c.saturating_add.ensures) in is
