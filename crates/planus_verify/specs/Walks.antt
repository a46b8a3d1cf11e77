-- What verification answers: how many more tables it may enter, or the first fault.
use Prim.Native.Nat.{zero, suc}
use Rattle.std.specs.Prelude.{◌≡◌, ℕ, ◌⊎◌, List, [], ◌∷◌, Result, Ok, Err, Bool, true, false}
use Rattle.planus_read.specs.Clauses.{Clause, AllHold, FirstBroken}
use Rattle.planus_read.specs.declared.errors.ErrorKind.{ErrorKind}
use Rattle.planus_read.specs.declared.errors.ErrorKind.TheVariants.{MissingRequired}
use Rattle.planus_verify.specs.Schemas.{Shapes}
use Rattle.planus_verify.specs.Steps.{Step, Tests, Enters, table_steps, root_steps}
use Rattle.planus_verify.specs.declared.fault.Fault.{Fault}
use Rattle.planus_verify.specs.declared.fault.FieldPlace.{FieldPlace}
use Rattle.planus_verify.specs.declared.fault.Fault.TheVariants as fault

-- by how many tables may still be entered: how many are left after it, or a fault
abbrev pub Does : Type 1
Does = ℕ → Result ℕ Fault → Type 0

-- of a table of an index, by its bytes, its slots and where it begins
abbrev pub DoesTable : Type 1
DoesTable = ℕ → List ℕ → List ℕ → ℕ → Does

-- no table is entered
abbrev pub NoTable : DoesTable
NoTable t S V start left result = ⊥

-- All clauses hold, or the fault is of the first one that fails.
abbrev pub Tested : (ErrorKind → Fault) → List Clause → Does
Tested here clauses left (Ok rest) = AllHold clauses × (rest ≡ left)
Tested here clauses left (Err found) =
    (e : ErrorKind) × FirstBroken clauses e × (found ≡ here e)

-- The same of a reader's result.
abbrev pub IsTested : {A : Type 0} → List Clause → Result A ErrorKind → Type 0
IsTested clauses (Ok x) = AllHold clauses
IsTested clauses (Err e) = FirstBroken clauses e

-- as a field reports it
abbrev pub tested_as : {A : Type 0} → FieldPlace → ℕ → Result A ErrorKind → Result ℕ Fault
tested_as place left (Ok x) = Ok left
tested_as place left (Err e) = Err (fault.Field place e)

-- a field that is absent, by whether it must not be
abbrev pub absent_as : FieldPlace → Bool → ℕ → Result ℕ Fault
absent_as place true left = Err (fault.Field place MissingRequired)
absent_as place false left = Ok left

abbrev pub StepDoes : DoesTable → Step → Does
StepDoes Table (Tests here clauses) = Tested here clauses
StepDoes Table (Enters t object slots start) = Table t object slots start

-- one step after the other, to the first fault
abbrev pub InOrder : DoesTable → List Step → Does
InOrder Table [] left result = result ≡ Ok left
InOrder Table (step ∷ steps) left result =
    ((next : ℕ) × StepDoes Table step left (Ok next) × InOrder Table steps next result)
    ⊎ ((found : Fault) × StepDoes Table step left (Err found) × (result ≡ Err found))

-- All fields of a table and of those that it leads to, one table in the other to a depth of n.
abbrev pub Walks : Shapes → ℕ → DoesTable
Walks schema zero t S V start left result = result ≡ Err fault.TooDeep
Walks schema (suc n) t S V start zero result = result ≡ Err fault.TooMany
Walks schema (suc n) t S V start (suc left) result =
    InOrder (Walks schema n) (table_steps schema t S V start) left result

-- the root of a buffer, as the table of an index, by both limits
abbrev pub RootWalks : Shapes → ℕ → ℕ → ℕ → List ℕ → Result ℕ Fault → Type 0
RootWalks schema t depth tables S = InOrder (Walks schema depth) (root_steps t S) tables
