use Rattle.std.specs.Prelude.{ℕ, List}
use Rattle.planus_read.specs.declared.table_reader.Table.{Table}
use Rattle.planus_read.specs.Reading.{TableLayout}
use Rattle.planus_read.specs.Tables.{ShowsTable}
use Rattle.planus_demo.specs.declared.weapon.WeaponRef.{WeaponRef}

-- the weapon's table
abbrev pub weapon_table : WeaponRef → Table
weapon_table weapon = weapon.table

-- the weapon is the table of this layout
abbrev pub ShowsWeapon : List ℕ → ℕ → TableLayout → WeaponRef → Type 0
ShowsWeapon S start layout weapon = ShowsTable S start layout (weapon_table weapon)
