use Rattle.std.specs.Prelude.{◌≡◌, ℕ, ◌+◌, ◌-◌, ◌<◌, ◌≤◌, List, ◌∷◌, ◌++◌, length, replicate}
use Rattle.std.specs.Prelude.{Result, Ok, Err}
use Rattle.planus_back.specs.Descriptions.{Describes}
use Rattle.planus_back.specs.Promises.{Promise, Keep, greatest_alignment}
use Rattle.planus_back.specs.Padding.{greatest_place, promise_of, IsLeastPadding}
use Rattle.planus_write.specs.Limits.{IsWithinLimit, ExceedsLimit, ExceedsRoom}
use Rattle.planus_write.specs.declared.errors.BuildError.{BuildError}
use Rattle.planus_write.specs.declared.errors.BuildError.TheVariants.{OutOfMemory, TooLarge}
use Rattle.planus_write.specs.declared.backing.Plan.{Plan}

-- The bytes, the remainder and mask of the constraints, and how many bytes fit without memory.
pub record Backed : Type 0 where
  pub bytes : List ℕ
  pub delayed : ℕ
  pub mask : ℕ
  pub room : ℕ

abbrev pub DescribedBy : Backed → List Promise → Type 0
DescribedBy backed promises = Describes (length backed.bytes) backed.delayed backed.mask promises

abbrev pub PutsBytes : List ℕ → Backed → Backed → Type 0
PutsBytes bytes old new =
    new ≡ record old { bytes = bytes ++ old.bytes; room = old.room - length bytes }

pub record Plans (size alignment : ℕ) (backed : Backed) (plan : Plan) : Type 0 where
  pub is_place : plan.place ≡ length backed.bytes + plan.padding + size
  pub fits : plan.place ≤ greatest_place
  pub below : plan.padding < alignment
  pub least : (promises : List Promise) → DescribedBy backed promises
      → IsLeastPadding (length backed.bytes) promises size alignment plan.padding
  pub kept : (promises : List Promise) → DescribedBy backed promises
      → greatest_alignment 1 promises ≤ alignment
      → Keep (promise_of plan.place alignment ∷ promises) plan.place
  pub described : (promises : List Promise) → DescribedBy backed promises
      → Describes plan.place plan.promises.delayed plan.promises.mask
      (promise_of plan.place alignment ∷ promises)

pub record Enlarges (n : ℕ) (old new : Backed) : Type 0 where
  pub unchanged : new ≡ record old { room = new.room }
  pub more : old.room ≤ new.room
  pub enough : n ≤ new.room
  pub as_was : n ≤ old.room → new.room ≡ old.room

abbrev pub Pads : Plan → Backed → Backed → Type 0
Pads plan old new =
    new ≡ record {
      bytes = replicate plan.padding 0 ++ old.bytes;
      delayed = plan.promises.delayed;
      mask = plan.promises.mask;
      room = old.room - plan.padding;
    }

pub record MakesRoom (size alignment : ℕ) (old : Backed) (place : ℕ) (new : Backed) : Type 0 where
  pub padding : ℕ
  pub is_place : place ≡ length old.bytes + padding + size
  pub below : padding < alignment
  pub fits : place ≤ greatest_place
  pub bytes : new.bytes ≡ replicate padding 0 ++ old.bytes
  pub size_fits : size ≤ new.room
  pub room : padding + size ≤ old.room → new.room + padding ≡ old.room
  pub least : (promises : List Promise) → DescribedBy old promises
      → IsLeastPadding (length old.bytes) promises size alignment padding
  pub kept : (promises : List Promise) → DescribedBy old promises
      → greatest_alignment 1 promises ≤ alignment
      → Keep (promise_of place alignment ∷ promises) place
  pub described : (promises : List Promise) → DescribedBy old promises
      → Describes place new.delayed new.mask (promise_of place alignment ∷ promises)

abbrev pub HasPlace : ℕ → ℕ → Backed → Type 0
HasPlace size alignment old = (promises : List Promise) → DescribedBy old promises
    → IsWithinLimit (length old.bytes) size alignment promises

abbrev pub LacksRoom : ℕ → ℕ → Backed → BuildError → Type 0
LacksRoom size alignment old TooLarge = (promises : List Promise) → DescribedBy old promises
    → ExceedsLimit (length old.bytes) size alignment promises
LacksRoom size alignment old OutOfMemory = (promises : List Promise) → DescribedBy old promises
    → ExceedsRoom (length old.bytes) old.room size alignment promises

abbrev pub PlansPart : ℕ → ℕ → Backed → Result Plan BuildError → Type 0
PlansPart size alignment backed (Ok plan) = Plans size alignment backed plan
PlansPart size alignment backed (Err error) =
    (error ≡ TooLarge) × LacksRoom size alignment backed TooLarge

abbrev pub Reserves : ℕ → Backed → Result (Unit {0}) BuildError → Backed → Type 0
Reserves n old (Ok done) new = Enlarges n old new
Reserves n old (Err error) new = (error ≡ OutOfMemory) × (new ≡ old) × (old.room < n)

abbrev pub Begins : ℕ → ℕ → Backed → Result ℕ BuildError → Backed → Type 0
Begins size alignment old (Ok place) new = MakesRoom size alignment old place new
Begins size alignment old (Err error) new = (new ≡ old) × LacksRoom size alignment old error

abbrev pub PlansRoom : ℕ → ℕ → Backed → Result Plan BuildError → Backed → Type 0
PlansRoom size alignment old (Ok plan) new =
    Plans size alignment old plan × Enlarges (plan.padding + size) old new
PlansRoom size alignment old (Err error) new = (new ≡ old) × LacksRoom size alignment old error
