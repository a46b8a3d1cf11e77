-- Schemas, and steps that they fit or don't.
use Rattle.std.specs.Prelude.{ℕ, List, [], ◌∷◌, codes, None}
use Rattle.planus.specs.Steps.{Step, text, bytes, refs, unions, table, finish, root_first}
use Rattle.planus.specs.Steps.{number_field, ref_field, tags_field, values_field}
use Rattle.planus_dump.specs.Describes.{Fits}
use Rattle.planus_dump.specs.Shapes.{TableShape, VariantShape, HasShape, field_of}
use Rattle.planus_dump.specs.declared.schemas.VariantKind.TheVariants as member
use Rattle.planus_dump.specs.declared.schemas.Schema.{Schema}
use Rattle.planus_dump.specs.declared.schemas.Kind.TheVariants.{One, List as ListOf, Union}
use Rattle.planus_dump.specs.declared.schemas.Kind.TheVariants.{UnionVector, Bytes}
use Rattle.planus_dump.specs.declared.schemas.Item.TheVariants.{Number, Text, Table}
use Rattle.planus_dump.specs.declared.schemas.Number.TheVariants.{I16}

-- equipment and loot are weapons, with tag 1
abbrev pub weapon_shape : TableShape
weapon_shape =
    record {
      name = codes "Weapon";
      fields = field_of 0 (codes "name") (One Text) ∷ field_of 1 (codes "damage") (One (Number I16)) ∷ [];
    }

abbrev pub monster_shape : TableShape
monster_shape =
    record {
      name = codes "Monster";
      fields = field_of 0 (codes "hp") (One (Number I16)) ∷ field_of 1 (codes "name") (One Text)
          ∷ field_of 2 (codes "inventory") Bytes ∷ field_of 3 (codes "weapons") (ListOf (Table 0))
          ∷ field_of 4 (codes "equipped") (Union 0) ∷ field_of 6 (codes "loot") (UnionVector 0)
          ∷ [];
    }

abbrev pub worked_tables : List TableShape
worked_tables = weapon_shape ∷ monster_shape ∷ []

-- one variant, of no name, for weapons
abbrev pub equipment_shape : List VariantShape
equipment_shape = record { tag = 1; name = []; kind = member.Table 0 } ∷ []

abbrev pub worked_unions : List (List VariantShape)
worked_unions = equipment_shape ∷ []

-- Step 1 is the axe, step 6 the monster, which has it as weapon, equipment and loot.
abbrev pub worked_steps : List Step
worked_steps =
    text (codes "Axe") ∷ table ((0, ref_field 0) ∷ (1, number_field 2 24) ∷ [])
    ∷ text (codes "Orc") ∷ bytes (1 ∷ 2 ∷ []) ∷ refs (1 ∷ []) ∷ unions ((1, 1) ∷ [])
    ∷ table ((1, ref_field 2) ∷ (2, ref_field 3) ∷ (3, ref_field 4) ∷ (5, ref_field 1)
    ∷ (6, tags_field 5) ∷ (7, values_field 5) ∷ (0, number_field 2 80)
    ∷ (4, number_field 1 1) ∷ [])
    ∷ finish root_first 6 None ∷ []

-- a weapon whose damage has four bytes, and one whose name is a byte vector
abbrev pub wide_steps : List Step
wide_steps =
    text (codes "Axe") ∷ table ((0, ref_field 0) ∷ (1, number_field 4 24) ∷ []) ∷ []

abbrev pub unnamed_steps : List Step
unnamed_steps =
    bytes (codes "Axe") ∷ table ((0, ref_field 0) ∷ (1, number_field 2 24) ∷ []) ∷ []

-- the schema of weapons fits the axe alone, and that of monsters the monster
pub record WorkedRowsFit (schema : Schema) : Type 0 where
  pub weapon : HasShape schema worked_tables worked_unions 0 → Fits schema worked_steps 1
  pub monster : HasShape schema worked_tables worked_unions 1 → Fits schema worked_steps 6
  pub wide : HasShape schema worked_tables worked_unions 0 → Fits schema wide_steps 1 → ⊥
  pub unnamed : HasShape schema worked_tables worked_unions 0 → Fits schema unnamed_steps 1 → ⊥
  pub other : HasShape schema worked_tables worked_unions 0 → Fits schema worked_steps 6 → ⊥
