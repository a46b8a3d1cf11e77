-- The schema as a value, and its names.
use Rattle.std.specs.Prelude.{◌≡◌, ◌∷◌, [], ℕ, List, codes, true}
use Rattle.std.proofs.Common.{refl}
use Rattle.planus_views.specs.Printed.{Shapes, is_whole, NameTexts}
use Rattle.harbour.specs.declared.verified.TheConstants.{FIELDS, TABLES, VARIANTS}

abbrev pub verified_schema : Shapes
verified_schema = record { fields = FIELDS; tables = TABLES; variants = VARIANTS }

-- its lists fit together
abbrev pub verified_whole : is_whole verified_schema ≡ true
verified_whole = refl

-- the tables' names by their indices
abbrev pub table_names : List (ℕ × List ℕ)
table_names = (0, codes "Person") ∷ (1, codes "Company") ∷ (2, codes "Ship") ∷ (3, codes "Port") ∷
    (4, codes "Manifest") ∷ (5, codes "Origin") ∷ (6, codes "Entry") ∷ []

-- the fields' names by the indices of their tables and by their slots
abbrev pub field_names : List (ℕ × ℕ × List ℕ)
field_names = (0, 0, codes "name") ∷ (0, 1, codes "age") ∷ (1, 0, codes "title") ∷
    (1, 1, codes "vat") ∷ (2, 0, codes "name") ∷ (2, 1, codes "hull") ∷ (2, 2, codes "cargo") ∷
    (2, 3, codes "kind") ∷ (2, 4, codes "level") ∷ (2, 5, codes "needs") ∷ (2, 6, codes "home") ∷
    (2, 7, codes "track") ∷ (2, 8, codes "heat") ∷ (2, 9, codes "depth") ∷ (2, 10, codes "open") ∷
    (2, 11, codes "shut") ∷ (2, 12, codes "maybe") ∷ (2, 13, codes "photo") ∷
    (2, 14, codes "names") ∷ (2, 15, codes "mate") ∷ (2, 16, codes "consorts") ∷
    (2, 17, codes "kinds") ∷ (2, 18, codes "owner") ∷ (2, 20, codes "shares") ∷
    (2, 23, codes "tall") ∷ (2, 24, codes "temps") ∷ (2, 25, codes "deltas") ∷
    (2, 26, codes "fix") ∷ (2, 27, codes "which") ∷ (2, 28, codes "flags") ∷
    (3, 0, codes "owner") ∷ (3, 2, codes "ships") ∷ (3, 3, codes "berths") ∷
    (3, 4, codes "shares") ∷ (3, 6, codes "soundings") ∷ (3, 7, codes "chart") ∷
    (3, 8, codes "gauge") ∷ (3, 9, codes "hoisted") ∷ (4, 0, codes "number") ∷
    (4, 1, codes "issued") ∷ (4, 2, codes "weight") ∷ (4, 3, codes "worth") ∷
    (4, 4, codes "boxes") ∷ (4, 5, codes "debt") ∷ (4, 6, codes "pages") ∷ (4, 7, codes "shift") ∷
    (4, 8, codes "tier") ∷ (4, 9, codes "lean") ∷ (4, 10, codes "sealed") ∷
    (4, 11, codes "opened") ∷ (4, 12, codes "kind") ∷ (4, 13, codes "level") ∷
    (4, 14, codes "needs") ∷ (4, 15, codes "signal") ∷ (4, 16, codes "rank") ∷
    (4, 17, codes "margin") ∷ (4, 18, codes "dues") ∷ (4, 19, codes "paid") ∷
    (4, 20, codes "grade") ∷ (4, 21, codes "berth") ∷ (4, 22, codes "gauge") ∷
    (4, 23, codes "title") ∷ (4, 24, codes "note") ∷ (4, 25, codes "scan") ∷
    (4, 26, codes "stamp") ∷ (4, 27, codes "weights") ∷ (4, 28, codes "counts") ∷
    (4, 29, codes "offsets") ∷ (4, 30, codes "marks") ∷ (4, 31, codes "kinds") ∷
    (4, 32, codes "track") ∷ (4, 33, codes "labels") ∷ (4, 34, codes "holders") ∷
    (4, 35, codes "ship") ∷ (4, 36, codes "next") ∷ (4, 37, codes "persons") ∷
    (4, 38, codes "parts") ∷ (4, 39, codes "owner") ∷ (4, 41, codes "payer") ∷
    (4, 43, codes "owners") ∷ (5, 0, codes "host") ∷ (5, 1, codes "port") ∷ (6, 0, codes "at") ∷
    (6, 1, codes "text") ∷ (6, 2, codes "origin") ∷ (6, 3, codes "cause") ∷
    (6, 5, codes "parents") ∷ []

-- the names of both
abbrev pub verified_names : NameTexts
verified_names = record { tables = table_names; fields = field_names }
