-- Each text has a string that says it.
use Rattle.std.proofs.Common.{◌≡◌, ℕ, ◌/◌, ◌%◌, ◌<◌, List, [], ◌∷◌, ◌++◌, map, true, false, Bool, refl, ap, sym, subst, ◌∙◌, arith, Some, suc}
use Rattle.std.specs.Prelude.{◌&&◌, ◌||◌, not, nat_lt, ◌==◌, if◌then◌else◌}
use Rattle.std.specs.List.{list_all}
use Rattle.std.specs.Str.{is_utf8}
use Rattle.std.specs.Char.{encode_utf8, digit_char}
use Rattle.std.proofs.lemmas.Str.{digit_value-digit_char, encode_ascii}
use Rattle.std.proofs.Math.Nat.{mod-add-div'}
use Rattle.std.proofs.lemmas.Bool.{eqb-true, le-leb}
use Rattle.planus_json_syntax.specs.Strings.{is_hex, is_high, is_low, short_value}
use Rattle.planus_json_syntax.specs.Spelling.{Four, number, Part, plain, short, code, is_plain, is_part, part_says, said, StringsAreWritten}
use Rattle.planus_json_syntax.proofs.FoundStrings.{if_is, both_true}

-- a part that says the byte
record IsFor (b : ℕ) (p : Part) : Type 0 where
  is : is_part p ≡ true
  says : part_says p ≡ b ∷ []

hex_digit : (d : ℕ) → d < 16 → is_hex (digit_char d) ≡ true
hex_digit d small = ap (λ v. nat_lt v 16) (digit_value-digit_char d (omega arith)) ∙ le-leb (suc d) 16 (omega arith)

not_half : (n : ℕ) → n < 32 → not (is_high n || is_low n) ≡ true
not_half n small = grind arith

all_hex : (x y : Bool) → x ≡ true → y ≡ true → (true && (true && (x && y))) ≡ true
all_hex x y h k = rw (h, k) refl

abbrev four_of : ℕ → Four
four_of b = record { a = 48; b = 48; c = digit_char (b / 16); d = digit_char (b % 16) }

low_number : (b : ℕ) → b < 32 → number (four_of b) ≡ b
low_number b small =
    let e = digit_value-digit_char (b / 16) (grind arith) in
    let f = digit_value-digit_char (b % 16) (grind arith) in
    omega (arith, e, f, mod-add-div' b 16)

low_code : (b : ℕ) → b < 32 → IsFor b (code (four_of b))
low_code b small =
    let e = low_number b small in
    record {
      is = both_true _ _ (all_hex _ _ (hex_digit (b / 16) (grind arith)) (hex_digit (b % 16) (grind arith)))
          (ap (λ n. not (is_high n || is_low n)) e ∙ not_half b small);
      says = ap encode_utf8 e ∙ encode_ascii b (omega arith);
    }

short_for : (b : ℕ) → short_value b ≡ Some b → b < 128 → IsFor b (short b)
short_for b e small = record { is = rw e refl; says = rw e (encode_ascii b small) }

abbrev part_for : ℕ → Part
part_for b =
    if is_plain b then plain b
    else if b == 34 then short b
    else if b == 92 then short b
    else code (four_of b)

not_plain : (b : ℕ) → is_plain b ≡ false → (b == 34) ≡ false → (b == 92) ≡ false → b < 32
not_plain b h k l = grind arith

part_for_byte : (b : ℕ) → IsFor b (part_for b)
part_for_byte b =
    if_is (IsFor b) (is_plain b) _ _ (λ h. record { is = h; says = refl }) (λ h.
    if_is (IsFor b) (b == 34) _ _ (λ e. subst (λ n. IsFor n (short n)) (sym (eqb-true b 34 e)) (short_for 34 refl (omega arith))) (λ k.
    if_is (IsFor b) (b == 92) _ _ (λ e. subst (λ n. IsFor n (short n)) (sym (eqb-true b 92 e)) (short_for 92 refl (omega arith))) (λ l.
    low_code b (not_plain b h k l))))

all_parts : (content : List ℕ) → list_all is_part (map part_for content) ≡ true
all_parts [] = refl
all_parts (b ∷ content) = both_true (is_part (part_for b)) (list_all is_part (map part_for content)) (part_for_byte b).is (all_parts content)

say_all : (content : List ℕ) → said (map part_for content) ≡ content
say_all [] = refl
say_all (b ∷ content) = ap (λ x. x ++ said (map part_for content)) (part_for_byte b).says ∙ ap (λ bs. b ∷ bs) (say_all content)

pub strings_written : StringsAreWritten
strings_written content h = (map part_for content, both_true _ _ (all_parts content) (subst (λ w. is_utf8 w ≡ true) (sym (say_all content)) h), say_all content)
