-- The variants of `Equipment`.
use Rattle.std.specs.Prelude.{◌∷◌, [], List, Option, Some, None, Ok}
use Rattle.planus.specs.Printed.{Table, UnionVariant, table_variant}
use Rattle.planus_views.specs.Printed.{view_table, Checked, unknown}
use Rattle.monsters.specs.declared.equipment.EquipmentRef.TheVariants as equipment_ref
use Rattle.monsters.specs.declared.verified.equipment.EquipmentView.TheVariants as equipment_view
use Rattle.monsters.specs.declared.equipment.EquipmentRef.{EquipmentRef}
use Rattle.monsters.specs.declared.verified.equipment.EquipmentView.{EquipmentView}

abbrev pub equipment_1 : EquipmentRef → Option Table
equipment_1 (equipment_ref.Weapon view) = Some view.0

-- by their tags
abbrev pub equipment_variants : List (UnionVariant EquipmentRef)
equipment_variants = table_variant 1 equipment_1 ∷ []

abbrev pub equipment_view_1 : EquipmentView → Option Table
equipment_view_1 (equipment_view.Weapon view) = Some (view_table view.0)
equipment_view_1 _ = None

-- the variants of a verified one, by their tags
abbrev pub equipment_view_variants : List (UnionVariant EquipmentView)
equipment_view_variants = table_variant 1 equipment_view_1 ∷ []

-- what the checked reader returns
abbrev pub equipment_checked : EquipmentView → Checked EquipmentView
equipment_checked (equipment_view.Unknown tag) = unknown tag
equipment_checked (equipment_view.Weapon view) = Ok (equipment_view.Weapon view)
