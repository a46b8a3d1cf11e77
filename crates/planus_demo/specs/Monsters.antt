use Rattle.std.specs.Prelude.{ℕ, List, [], ◌∷◌, Option, Some}
use Rattle.planus_read.specs.Values.{Field}
use Rattle.planus_fields.specs.Fields.{AlwaysWritten}
use Rattle.planus_write.specs.Placing.{Outcome, then_does}
use Rattle.planus_write.specs.Preparing.{Answers}
use Rattle.planus_write.specs.declared.offset.Offset.{Offset}
use Rattle.planus_write.specs.declared.union_offset.UnionOffset.{UnionOffset}
use Rattle.planus_write.specs.declared.union_vector_offset.UnionVectorOffset.{UnionVectorOffset}
use Rattle.planus_write.specs.Contents.{Content}
use Rattle.planus.specs.Contents.{tag_content, tags_content, value_content, values_content}
use Rattle.planus.specs.Preparing.{WritesFields, next_turn}
use Rattle.planus.specs.TableFields.{field_in, list_tags_in, list_values_in, union_tag_in}
use Rattle.planus.specs.TableFields.{union_value_in}

-- a monster was written, its fields being prepared by slot, or the call failed
abbrev pub WritesMonster : {H N I W K T : Type 0} → Outcome (Option H) → (H → Field) → Outcome N
    → (N → Field) → Outcome (Option I) → (I → Field) → Outcome (Option W) → (W → Field)
    → Outcome (Option (UnionOffset K)) → Outcome (Option (UnionVectorOffset K))
    → Outcome (Offset T)
WritesMonster {H} {N} {I} {W} {K} {T} prepare_hp hp_field prepare_name name_field
    prepare_inventory inventory_field prepare_weapons weapons_field prepare_equipped prepare_loot =
    then_does (next_turn prepare_hp
    (λ hp. next_turn (AlwaysWritten prepare_name)
    (λ name. next_turn prepare_inventory
    (λ inventory. next_turn prepare_weapons
    (λ weapons. next_turn prepare_equipped
    (λ equipped. next_turn prepare_loot
    (λ loot. Answers (field_in 1 name_field name ∷ field_in 2 inventory_field inventory
    ∷ field_in 3 weapons_field weapons ∷ union_value_in 5 equipped ∷ list_tags_in 6 loot
    ∷ list_values_in 7 loot ∷ field_in 0 hp_field hp ∷ union_tag_in 4 equipped ∷ []))))))))
    WritesFields

-- a monster's fields by slot
abbrev pub monster_contents : (hp : Option Content) (name : Content)
    (inventory weapons : Option Content) (equipped : Option (ℕ × Content))
    (loot : Option (Content × Content)) → List (ℕ × Option Content)
monster_contents hp name inventory weapons equipped loot =
    (1, Some name) ∷ (2, inventory) ∷ (3, weapons) ∷ (5, value_content equipped)
    ∷ (6, tags_content loot) ∷ (7, values_content loot) ∷ (0, hp) ∷ (4, tag_content equipped) ∷ []
