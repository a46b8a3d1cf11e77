-- What holds of verified tables.
use Prim.Native.Nat.{zero, suc}
use Rattle.std.specs.Prelude.{ℕ, ◌+◌, List, [], ◌∷◌, ⊤}
use Rattle.planus_read.specs.Clauses.{AllHold}
use Rattle.planus_read.specs.Tables.{table_object, table_slots, table_start}
use Rattle.planus_read.specs.declared.table_reader.Table.{Table}
use Rattle.planus_verify.specs.Schemas.{Shapes}
use Rattle.planus_verify.specs.Steps.{Step, Tests, Enters, table_steps}

-- of a table of an index: its bytes, its slots, and where it begins
abbrev pub OfTable : Type 1
OfTable = ℕ → List ℕ → List ℕ → ℕ → Type 0

abbrev pub StepHolds : OfTable → Step → Type 0
StepHolds Table (Tests here clauses) = AllHold clauses
StepHolds Table (Enters t S V start) = Table t S V start

abbrev pub StepsHold : OfTable → List Step → Type 0
StepsHold Table [] = ⊤
StepsHold Table (step ∷ steps) = StepHolds Table step × StepsHold Table steps

-- No clause fails of all fields, and of those of the tables that they lead to, one table in the
-- other to a depth of n.
abbrev pub Verified : Shapes → ℕ → OfTable
Verified schema zero t S V start = ⊥
Verified schema (suc n) t S V start =
    StepsHold (Verified schema n) (table_steps schema t S V start)

-- to some depth
abbrev pub IsVerified : Shapes → ℕ → Table → Type 0
IsVerified schema t table =
    ∥ ((n : ℕ) × Verified schema n t (table_object table) (table_slots table) (table_start table))
    ∥₁

-- a number for a table
abbrev pub OfTables : Type 0
OfTables = ℕ → List ℕ → List ℕ → ℕ → ℕ

abbrev pub step_tables : OfTables → Step → ℕ
step_tables tables (Tests here clauses) = 0
step_tables tables (Enters t S V start) = tables t S V start

abbrev pub steps_tables : OfTables → List Step → ℕ
steps_tables tables [] = 0
steps_tables tables (step ∷ steps) = step_tables tables step + steps_tables tables steps

-- A table and all to which it leads, each as often as it is reached, to a depth of n.
abbrev pub tables_in : Shapes → ℕ → OfTables
tables_in schema zero t S V start = 0
tables_in schema (suc n) t S V start =
    1 + steps_tables (tables_in schema n) (table_steps schema t S V start)
