-- How contents that may be shared are looked up and remembered.
use Rattle.std.specs.Prelude.{◌≡◌, ◌+◌, ◌≤◌, List, Bool, true, false, Option, Some, None, Result}
use Rattle.std.specs.Prelude.{Ok}
use Rattle.std.specs.Prelude.{ℕ, Err, length, ⊤}
use Rattle.planus_back.specs.Caches.{IsBucketOf}
use Rattle.planus_back.specs.Padding.{greatest_place}
use Rattle.planus_back.specs.declared.bucket.Bucket.{Bucket}
use Rattle.planus_write.specs.inner.Backed.{Backed, Plans, Enlarges, HasPlace, LacksRoom}
use Rattle.planus_write.specs.Holding.{Holding, few, many, FindContents, FindsHeld, HoldsMore}
use Rattle.planus_write.specs.Holding.{FitsInFront}
use Rattle.planus_write.specs.declared.backing.Plan.{Plan}
use Rattle.planus_write.specs.declared.errors.BuildError.{BuildError}
use Rattle.planus_write.specs.declared.errors.BuildError.TheVariants.{OutOfMemory}
use Rattle.planus_write.specs.declared.sharing.Lookup.{Lookup}
use Rattle.planus_write.specs.declared.sharing.Lookup.TheVariants.{Found, Planned}

pub record Shares : Type 0 where
  pub on : Bool
  pub holding : Holding

abbrev pub LooksIn : Holding → List ℕ → Option Bucket → Type 0
LooksIn (few distances) contents bucket = bucket ≡ None
LooksIn (many held) contents (Some bucket) = IsBucketOf held contents bucket
LooksIn (many held) contents None = ⊥

abbrev pub LooksIf : Bool → Holding → List ℕ → Option Bucket → Type 0
LooksIf true holding contents bucket = LooksIn holding contents bucket
LooksIf false holding contents bucket = ⊤

abbrev pub FindsIf : Bool → FindContents → Holding → List ℕ → List ℕ → Option ℕ → Type 0
FindsIf true contents_in holding bytes contents answer =
    FindsHeld contents_in holding bytes contents answer
FindsIf false contents_in holding bytes contents answer = answer ≡ None

abbrev pub Finds : FindContents → Shares → List ℕ → List ℕ → Option ℕ → Type 0
Finds contents_in shares bytes contents answer =
    FindsIf shares.on contents_in shares.holding bytes contents answer

-- the distance at which the contents are, or are about to be, is remembered
abbrev pub KeepsIf : Bool → FindContents → List ℕ → List ℕ → ℕ → Holding → Holding → Type 0
KeepsIf true contents_in bytes contents distance old new =
    HoldsMore old distance new × FitsInFront contents_in bytes contents distance new
KeepsIf false contents_in bytes contents distance old new = new ≡ old

pub record Keeps (contents_in : FindContents) (bytes contents : List ℕ) (distance : ℕ)
    (old new : Shares) : Type 0 where
  pub on : new.on ≡ old.on
  pub holding : KeepsIf old.on contents_in bytes contents distance old.holding new.holding

-- a shared part may also fail when its cache gets no memory
abbrev pub LacksSharedRoom : BuildError → Bool → ℕ → ℕ → Backed → Backed → Type 0
LacksSharedRoom OutOfMemory true size alignment old new =
    (old.room ≤ new.room) × (new ≡ record old { room = new.room })
    × HasPlace size alignment old
LacksSharedRoom error on size alignment old new =
    (new ≡ old) × LacksRoom size alignment old error

abbrev pub PlansShared : FindContents → List ℕ → ℕ → ℕ → Backed → Shares → Result Plan BuildError
    → Backed → Shares → Type 0
PlansShared contents_in contents size alignment old shares (Ok plan) new kept =
    Plans size alignment old plan × Enlarges (plan.padding + size) old new
    × Keeps contents_in old.bytes contents plan.place shares kept
PlansShared contents_in contents size alignment old shares (Err error) new kept =
    LacksSharedRoom error shares.on size alignment old new × (kept ≡ shares)

abbrev pub FindsOrPlans : FindContents → List ℕ → ℕ → ℕ → Backed → Shares → Result Lookup BuildError
    → Backed → Shares → Type 0
FindsOrPlans contents_in contents size alignment old shares (Ok (Found distance)) new kept =
    Finds contents_in shares old.bytes contents (Some distance) × (new ≡ old) × (kept ≡ shares)
    × (length old.bytes ≤ greatest_place)
FindsOrPlans contents_in contents size alignment old shares (Ok (Planned plan)) new kept =
    Finds contents_in shares old.bytes contents None
    × PlansShared contents_in contents size alignment old shares (Ok plan) new kept
FindsOrPlans contents_in contents size alignment old shares (Err error) new kept =
    Finds contents_in shares old.bytes contents None
    × PlansShared contents_in contents size alignment old shares (Err error) new kept
