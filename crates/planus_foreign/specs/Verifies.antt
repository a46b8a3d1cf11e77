-- What a call answers that verifies a buffer.
use Rattle.std.specs.Prelude.{◌≡◌, ℕ, List, Option, Some, None, Result, Ok, Err}
use Rattle.planus_verify.specs.declared.fault.Fault.{Fault}
use Rattle.planus_verify.specs.declared.fault.Fault.TheVariants as fault
use Rattle.planus_verify.specs.declared.fault.FieldPlace.{FieldPlace}
use Rattle.planus_verify.specs.Schemas.{Shapes}
use Rattle.planus_verify.specs.Walks.{RootWalks}
use Rattle.planus_foreign.specs.Statuses.{fine, too_deep, too_many, status_of}
use Rattle.planus_foreign.specs.declared.fault_place.FaultPlace.{FaultPlace}

-- no place, by the greatest number of a word
abbrev pub nowhere : ℕ
nowhere = 18446744073709551615

abbrev pub at_root : FaultPlace
at_root = record { table = nowhere; start = nowhere; slot = nowhere; item = nowhere }

abbrev pub item_of : Option ℕ → ℕ
item_of (Some item) = item
item_of None = nowhere

abbrev pub at_field : FieldPlace → FaultPlace
at_field place = record
    { table = place.table; start = place.start; slot = place.slot; item = item_of place.item }

-- the status by what verification answers, and the place of a fault that has one
abbrev pub Stores : Result ℕ Fault → FaultPlace → FaultPlace → ℕ → Type 0
Stores (Ok left) old new status = (new ≡ old) × (status ≡ fine)
Stores (Err (fault.Root kind)) old new status = (new ≡ at_root) × (status ≡ status_of kind)
Stores (Err (fault.Field place kind)) old new status =
    (new ≡ at_field place) × (status ≡ status_of kind)
Stores (Err fault.TooDeep) old new status = (new ≡ old) × (status ≡ too_deep)
Stores (Err fault.TooMany) old new status = (new ≡ old) × (status ≡ too_many)

-- A call verifies the root of a buffer, the table at an index of a schema, within limits.
pub record Verifies (schema : Shapes) (index depth tables : ℕ) (buffer : List ℕ)
    (old new : FaultPlace) (status : ℕ) : Type 0
  where
    pub result : Result ℕ Fault
    pub walks : RootWalks schema index depth tables buffer result
    pub stores : Stores result old new status
