use Rattle.std.specs.Prelude.{◌≡◌, ◌≢◌, ℕ, List, [], ◌∷◌, codes, map, Option, Some, None, String}
use Rattle.std.specs.Borrow.{Bor}
use Rattle.std.specs.String.{string_bytes}
use Rattle.std.specs.declared.alloc.Global.{Global}
use Rattle.planus_demo.specs.declared.modes.Mode.{Mode}
use Rattle.planus_demo.specs.declared.modes.Mode.TheVariants.{Script, Weapon, Monster}

-- no argument, `weapon` or `monster`; no mode for others
abbrev pub IsMode : List (List ℕ) → Option Mode → Type 0
IsMode words (Some Script) = words ≡ []
IsMode words (Some Weapon) = words ≡ codes "weapon" ∷ []
IsMode words (Some Monster) = words ≡ codes "monster" ∷ []
IsMode words None =
    (words ≢ []) × (words ≢ codes "weapon" ∷ []) × (words ≢ codes "monster" ∷ [])

-- the mode of these words; none of words that are no UTF-8
abbrev pub IsModeFor : Option (Bor (List (String Global))) → Option Mode → Type 0
IsModeFor None mode = mode ≡ None
IsModeFor (Some words) mode = IsMode (map string_bytes words.now) mode
