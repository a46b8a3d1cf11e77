use Rattle.std.proofs.Common.{◌≡◌, map, OnOk, subst, take}
use Rattle.planus_dump.specs.Shapes.{field_shape}
use Rattle.planus_demo.specs.WorkedSchemas.{weapon_shape}
use Rattle.planus_demo.proofs.Fields.{behind}
use Rattle.planus_demo.proofs.mode.push_weapon.Goals as goal

pub returns : goal.returns
returns c =
    let before = map field_shape c.args.fields.now.items in
    let last = c.push_field-2 in
    subst (λ fields. OnOk last.result (map field_shape last.new.fields.items ≡ fields))
    (behind before (take 1 weapon_shape.fields) _ _ c.in_ok-push_field.ensures) last.ensures
