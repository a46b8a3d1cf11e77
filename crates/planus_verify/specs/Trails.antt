-- The fields that lead from one table to another.
use Rattle.std.specs.Prelude.{◌≡◌, ℕ, ◌≤◌, ◌⊎◌, List, [], ◌∷◌, length}
use Rattle.planus_read.specs.Clauses.{AllHold}
use Rattle.planus_read.specs.declared.errors.ErrorKind.{ErrorKind}
use Rattle.planus_verify.specs.Schemas.{Shapes, fields_of}
use Rattle.planus_verify.specs.Steps.{Step, Tests, Enters, field_steps, root_steps}
use Rattle.planus_verify.specs.Verified.{OfTable, steps_tables, tables_in}
use Rattle.planus_verify.specs.declared.fault.Fault.{Fault}
use Rattle.planus_verify.specs.declared.fault.Fault.TheVariants as fault
use Rattle.planus_verify.specs.declared.fault.FieldPlace.{FieldPlace}
use Rattle.planus_verify.specs.declared.schema.FieldShape.{FieldShape}
use Rattle.planus_verify.specs.declared.schema.Variant.{Variant}

-- of a place and a table
abbrev pub OfPlace : Type 1
OfPlace = FieldPlace → OfTable

-- The first step enters this table.
abbrev pub EntersFirst : List Step → OfTable
EntersFirst [] t S V start = ⊥
EntersFirst (Tests here clauses ∷ steps) t S V start = ⊥
EntersFirst (Enters index object slots begin ∷ steps) t S V start =
    (t ≡ index) × (S ≡ object) × (V ≡ slots) × (start ≡ begin)

-- A step enters this table directly after a test that holds, whose fault is this one.
abbrev pub EntersAfter : (ErrorKind → Fault) → List Step → OfTable
EntersAfter at [] t S V start = ⊥
EntersAfter at (Enters index object slots begin ∷ steps) t S V start =
    EntersAfter at steps t S V start
EntersAfter at (Tests here clauses ∷ steps) t S V start =
    ((here ≡ at) × AllHold clauses × EntersFirst steps t S V start)
    ⊎ EntersAfter at steps t S V start

-- By the steps of a field: its own test holds, which is the first, and that of the reference at the
-- place, which leads to this table. Other items of its vector may fail.
abbrev pub FieldRefers : List Step → FieldPlace → OfTable
FieldRefers [] place t S V start = ⊥
FieldRefers (Enters index object slots begin ∷ steps) place t S V start = ⊥
FieldRefers (Tests here clauses ∷ steps) place t S V start =
    AllHold clauses × EntersAfter (fault.Field place) (Tests here clauses ∷ steps) t S V start

-- One of some fields of the table t refers to a table. Others may fail.
abbrev pub FieldsRefer :
    List Variant → ℕ → List ℕ → List ℕ → ℕ → List FieldShape → FieldPlace → OfTable
FieldsRefer variants t S V start [] place index object slots begin = ⊥
FieldsRefer variants t S V start (field ∷ fields) place index object slots begin =
    FieldRefers (field_steps variants t S V start field) place index object slots begin
    ⊎ FieldsRefer variants t S V start fields place index object slots begin

-- A field of the table t, or an item of its vector, refers to a table.
abbrev pub Refers : Shapes → ℕ → List ℕ → List ℕ → ℕ → FieldPlace → OfTable
Refers schema t S V start = FieldsRefer schema.variants t S V start (fields_of schema t)

-- The trail begins at this table: it is one place alone, which ends it there; or its first place
-- refers to the table at which the rest begins.
abbrev pub Leads : Shapes → OfPlace → List FieldPlace → OfTable
Leads schema Ends [] t S V start = ⊥
Leads schema Ends (first ∷ rest) t S V start =
    ((rest ≡ []) × Ends first t S V start)
    ⊎ ((index : ℕ) × (object : List ℕ) × (slots : List ℕ) × (begin : ℕ)
    × Refers schema t S V start first index object slots begin
    × Leads schema Ends rest index object slots begin)

-- It begins at a buffer's root, the table of an index, and has at most so many places.
abbrev pub IsTrail : Shapes → ℕ → ℕ → OfPlace → List ℕ → List FieldPlace → Type 0
IsTrail schema t depth Ends S trail =
    (index : ℕ) × (object : List ℕ) × (slots : List ℕ) × (begin : ℕ)
    × EntersAfter fault.Root (root_steps t S) index object slots begin
    × Leads schema Ends trail index object slots begin × (length trail ≤ depth)

abbrev pub NoTrail : Shapes → ℕ → ℕ → OfPlace → List ℕ → Type 0
NoTrail schema t depth Ends S =
    (trail : List FieldPlace) → IsTrail schema t depth Ends S trail → ⊥

-- the tables to which a root leads, each as often as it is, whether or not tests hold
abbrev pub root_tables : Shapes → ℕ → ℕ → List ℕ → ℕ
root_tables schema t depth S = steps_tables (tables_in schema depth) (root_steps t S)
