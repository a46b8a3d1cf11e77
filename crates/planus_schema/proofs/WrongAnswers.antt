-- Wrong answers, which the definitions refuse.
use Rattle.std.proofs.Common.{◌≡◌, ◌≤◌, ◌-◌, ℕ, true, false, List, [], ◌∷◌, codes, refl, arith}
use Rattle.std.specs.Global.{Vec}
use Rattle.planus_schema.specs.declared.schema.Declared.{Declared}
use Rattle.planus_schema.specs.declared.schema.TableField.{TableField}
use Rattle.planus_schema.specs.Names.{are_apart}
use Rattle.planus_schema.specs.Plans.{lines_from, Falls}
use Rattle.planus_schema.specs.declared.plan.Line.{Line}

-- Names that differ in case alone aren't apart.
pub alike_but_for_case : (a b : Vec ℕ) → a.items ≡ codes "Item" → b.items ≡ codes "iTEM"
    → are_apart (a ∷ b ∷ []) ≡ false
alike_but_for_case a b is_a is_b = rw is_a (rw is_b refl)

-- A deprecated field has no line.
pub deprecated_left_out : (ds : List Declared) (table place : ℕ) (f : TableField)
    → f.deprecated ≡ true → lines_from ds table place (f ∷ []) ≡ []
deprecated_left_out ds table place f is = rw is refl

-- Rising alignments don't fall.
pub rising : (a b : Line) → a.alignment ≡ 1 → b.alignment ≡ 8 → ¬ (Falls (a ∷ b ∷ []))
rising a b is_a is_b falls =
    let low : 18446744073709551615 - a.alignment ≤ 18446744073709551615 - b.alignment =
    falls 0 1 a (omega arith) (omega arith) in
    omega (arith, low, is_a, is_b)
