use Rattle.std.specs.Prelude.{◌≡◌, ◌≢◌, ℕ, List, Result, Ok, Err, ◌⊎◌}
use Rattle.planus_read.specs.declared.errors.ErrorKind.{ErrorKind}
use Rattle.planus_read.specs.declared.errors.ErrorKind.TheVariants.{UnknownUnionTag}
use Rattle.planus_read.specs.Clauses.{Answer, shown}
use Rattle.planus_read.specs.Reading.{table_reading}
use Rattle.planus_demo.specs.WeaponViews.{ShowsWeapon}
use Rattle.planus_demo.specs.declared.weapon.WeaponRef.{WeaponRef}
use Rattle.planus_demo.specs.declared.equipment_ref.EquipmentRef.{EquipmentRef}
use Rattle.planus_demo.specs.declared.equipment_ref.EquipmentRef.TheVariants.{Weapon}

-- the results of reading a weapon
abbrev pub ReadsWeapon : List ℕ → ℕ → ℕ → Result WeaponRef ErrorKind → Type 0
ReadsWeapon S start f answer = Answer (shown (ShowsWeapon S start) (table_reading S f)) answer

-- a weapon for tag 1, no other tag
abbrev pub ReadsEquipment : List ℕ → ℕ → ℕ → ℕ → Result EquipmentRef ErrorKind → Type 0
ReadsEquipment S start tag f (Ok (Weapon weapon)) = (tag ≡ 1) × ReadsWeapon S start f (Ok weapon)
ReadsEquipment S start tag f (Err error) =
    ((tag ≡ 1) × ReadsWeapon S start f (Err error))
    ⊎ ((tag ≢ 1) × (error ≡ UnknownUnionTag tag))
