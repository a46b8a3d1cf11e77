use Rattle.std.proofs.Common.{◌≡◌, map, OnOk, subst, take}
use Rattle.planus_dump.specs.Shapes.{field_shape}
use Rattle.planus_demo.specs.WorkedSchemas.{monster_shape}
use Rattle.planus_demo.proofs.Fields.{behind, more}
use Rattle.planus_demo.proofs.mode.push_monster.Goals as goal

pub returns : goal.returns
returns c =
    let before = map field_shape c.args.fields.now.items in let all = monster_shape.fields in
    let one = c.in_ok-push_field.ensures in
    let two = more before (take 1 all) _ _ _ one c.in_ok-push_field-2.ensures in
    let three = more before (take 2 all) _ _ _ two c.in_ok-push_field-3.ensures in
    let four = more before (take 3 all) _ _ _ three c.in_ok-push_field-4.ensures in
    let five = more before (take 4 all) _ _ _ four c.in_ok-push_field-5.ensures in
    let last = c.push_field-6 in
    subst (λ fields. OnOk last.result (map field_shape last.new.fields.items ≡ fields))
    (behind before (take 5 all) _ _ five) last.ensures
