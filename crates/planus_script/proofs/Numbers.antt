-- Decimal digits.
use Rattle.std.proofs.Common.{◌≡◌, ℕ, List, Bool, true, false, ◌&&◌, rules, length, ◌≤◌, ◌<◌, ◌^◌, refl, arith, sym, Err}
use Rattle.std.specs.Prelude.{nat_le, nat_lt}
use Rattle.std.proofs.lemmas.Bool.Decides.{nat_tests}
use Rattle.planus_script.specs.Words.{is_number, number_of}
use Rattle.planus_script.specs.declared.script.ReadFault.TheVariants.{BadNumber}
use Rattle.std.specs.List.{list_all}
use Rattle.std.specs.Char.{is_ascii_digit}
use Rattle.std.specs.Str.Parse.{digits_value, ParsesUnsigned}
use Rattle.std.proofs.lemmas.Str.Parse.{IsNumeralModel, numerals_by_value, parse_digits}

pub own : IsNumeralModel (λ ds. list_all is_ascii_digit ds ≡ true) (digits_value 10)
own = numerals_by_value _ (search rules)

pub not_a_number : (word : List ℕ) → length word ≤ 20 → list_all is_ascii_digit word ≡ true → ¬ ((0 < length word) × (digits_value 10 word < 2 ^ 64)) → is_number word ≡ false
not_a_number word short digits above =
    by_tests (nat_le 1 (length word)) (nat_lt (digits_value 10 word) (2 ^ 64)) refl refl
  where
    by_tests : (some below : Bool) → nat_le 1 (length word) ≡ some → nat_lt (digits_value 10 word) (2 ^ 64) ≡ below → is_number word ≡ false
    by_tests false below h k = rw h refl
    by_tests true false h k = rw (h, digits, k) (elim (nat_le (length word) 20) as (λ b. (b && false) ≡ false) [ true ↦ refl | false ↦ refl ])
    by_tests true true h k = absurd (above (grind (arith, nat_tests, h), grind (arith, nat_tests, k)))

pub refused : {E : Type 0} (word : List ℕ) (e : E) → ParsesUnsigned {E = E} 64 10 word (Err e) → length word ≤ 20 → list_all is_ascii_digit word ≡ true → Err BadNumber ≡ number_of word
refused {E} word e h short digits =
    let above : ¬ ((0 < length word) × (digits_value 10 word < 2 ^ 64)) = parse_digits own 64 word (Err e) h digits in
    sym (rw (not_a_number word short digits above) refl)
