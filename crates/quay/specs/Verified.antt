-- The schema as a value, and its names.
use Rattle.std.specs.Prelude.{◌≡◌, ◌∷◌, [], ℕ, List, codes, true}
use Rattle.std.proofs.Common.{refl}
use Rattle.planus_views.specs.Printed.{Shapes, is_whole, NameTexts}
use Rattle.quay.specs.declared.verified.TheConstants.{FIELDS, TABLES, VARIANTS}

abbrev pub verified_schema : Shapes
verified_schema = record { fields = FIELDS; tables = TABLES; variants = VARIANTS }

-- its lists fit together
abbrev pub verified_whole : is_whole verified_schema ≡ true
verified_whole = refl

-- the tables' names by their indices
abbrev pub table_names : List (ℕ × List ℕ)
table_names = (0, codes "Boat") ∷ (1, codes "Fee") ∷ (2, codes "Slip") ∷ (3, codes "Quay") ∷ []

-- the fields' names by the indices of their tables and by their slots
abbrev pub field_names : List (ℕ × ℕ × List ℕ)
field_names = (0, 0, codes "name") ∷ (1, 0, codes "gear") ∷ (1, 1, codes "euros") ∷
    (2, 0, codes "berth") ∷ (3, 0, codes "name") ∷ (3, 1, codes "plate") ∷ (3, 2, codes "cranes") ∷
    (3, 3, codes "first") ∷ (3, 5, codes "berths") ∷ (3, 7, codes "boats") ∷ (3, 8, codes "fees") ∷
    (3, 9, codes "dives") ∷ (3, 10, codes "slips") ∷ []

-- the names of both
abbrev pub verified_names : NameTexts
verified_names = record { tables = table_names; fields = field_names }
