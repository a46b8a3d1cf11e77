use Rattle.std.specs.Prelude.{[], ◌∷◌, Option}
use Rattle.planus_read.specs.Values.{Field}
use Rattle.planus_write.specs.Placing.{Outcome, then_does}
use Rattle.planus_write.specs.Preparing.{Answers}
use Rattle.planus_write.specs.declared.offset.Offset.{Offset}
use Rattle.planus.specs.Preparing.{WritesFields, next_turn}
use Rattle.planus.specs.TableFields.{field_in}

-- a weapon was written, its name being prepared before its damage, or the call failed
abbrev pub WritesWeapon : {A B T : Type 0} → Outcome (Option A) → (A → Field) → Outcome (Option B)
    → (B → Field) → Outcome (Offset T)
WritesWeapon {A} {B} {T} prepare_name name_field prepare_damage damage_field =
    then_does (next_turn prepare_name
    (λ name. next_turn prepare_damage
    (λ damage. Answers (field_in 0 name_field name ∷ field_in 1 damage_field damage ∷ []))))
    WritesFields
