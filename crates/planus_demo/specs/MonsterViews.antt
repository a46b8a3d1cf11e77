use Rattle.std.specs.Prelude.{ℕ, List}
use Rattle.planus_read.specs.declared.table_reader.Table.{Table}
use Rattle.planus_read.specs.Reading.{TableLayout}
use Rattle.planus_read.specs.Tables.{ShowsTable}
use Rattle.planus_demo.specs.declared.monster.MonsterRef.{MonsterRef}

-- the monster's table
abbrev pub monster_table : MonsterRef → Table
monster_table monster = monster.table

-- the monster is the table of this layout
abbrev pub ShowsMonster : List ℕ → ℕ → TableLayout → MonsterRef → Type 0
ShowsMonster S start layout monster = ShowsTable S start layout (monster_table monster)
