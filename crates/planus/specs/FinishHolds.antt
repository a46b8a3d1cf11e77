-- What holds of every finish of every run.
use Rattle.std.specs.Prelude.{◌≡◌, ℕ, ◌+◌, ◌≤◌, List, [], ◌∷◌, ◌++◌, length, take, drop}
use Rattle.std.specs.Prelude.{slice_get, Option, Some, ⊤, Bool, true, false, if◌then◌else◌}
use Rattle.std.specs.List.{AllByRecursion}
use Rattle.planus_back.specs.Promises.{Keep}
use Rattle.planus_back.specs.Parts.{Part}
use Rattle.planus_back.specs.Placings.{IsPlacing, NoneIsGreater}
use Rattle.planus_read.specs.Bytes.{BytesStand}
use Rattle.planus_read.specs.Values.{Value}
use Rattle.planus_read.specs.Stands.{Stands, ReferenceStands}
use Rattle.planus_read.specs.Aligned.{AlignedAt}
use Rattle.planus_read.specs.ReadsBack.{ReadsBack, ReferenceReads}
use Rattle.planus_read.specs.SizePrefixed.{IsPrefixed}
use Rattle.planus_write.specs.Shared.{CacheSettings}
use Rattle.planus_write.specs.Parts.{identifier_bytes, position_in}
use Rattle.planus_write.specs.Kept.{TagsReached}
use Rattle.planus.specs.Steps.{Step, Front, root_first, size_first, finish}
use Rattle.planus.specs.Runs.{Finish, Listed, RunState, nothing_written, LeadsTo, value_at}
use Rattle.planus.specs.Runs.{value_of}

-- a step's value is encoded at its distances, aligned, and reads back
pub record ValueHolds (steps : List Step) (given : Finish) (one : Listed) : Type 0 where
  pub step : Step
  pub value : Value
  pub there : slice_get steps one.step ≡ Some step
  pub is_value : value_of given.places step ≡ Some value
  pub reached : one.named.distance ≤ length given.bytes
  pub tags_reached : TagsReached (length given.bytes) one.named.tags
  pub stands : Stands given.bytes (position_in given.bytes one.named) value
  pub aligned : AlignedAt given.bytes (position_in given.bytes one.named) value
  pub reads_back : ReadsBack given.bytes (position_in given.bytes one.named) value

-- no other placement of these parts has a smaller distance for any of them
pub record IsFewest (parts : List Part) (places : List ℕ) (bytes : List ℕ) : Type 0 where
  pub placing : IsPlacing parts places
  pub whole : (earlier : List ℕ) × (places ≡ earlier ++ length bytes ∷ [])
  pub least : (others : List ℕ) → IsPlacing parts others → NoneIsGreater places others

-- where the reference to the root is
abbrev pub root_at : Front → ℕ
root_at root_first = 0
root_at size_first = 4

-- the same in the bytes after the size
pub record ValueInSlice (steps : List Step) (places : List Listed) (slice : List ℕ) (one : Listed)
    : Type 0 where
  pub step : Step
  pub value : Value
  pub there : slice_get steps one.step ≡ Some step
  pub is_value : value_of places step ≡ Some value
  pub stands : Stands slice (position_in slice one.named) value
  pub reads_back : ReadsBack slice (position_in slice one.named) value

-- A size-prefixed finish: the size counts the bytes that follow, where all values hold, except for
-- their alignment.
pub record SizedHolds (steps : List Step) (root : ℕ) (identifier : Option (List ℕ)) (given : Finish)
    : Type 0 where
  pub size : IsPrefixed given.bytes
  pub leads : (distance : ℕ) × (value_at given.places root ≡ Some distance)
      × ReferenceStands (drop 4 given.bytes) 0 distance × ReferenceReads given.bytes 4 0 distance
  pub identified : BytesStand (drop 4 given.bytes) 4 (identifier_bytes identifier)
  pub values : AllByRecursion (ValueInSlice steps given.places (drop 4 given.bytes)) given.places

-- the same by front: without a size nothing more is said
abbrev pub HoldsBySize : Front → List Step → ℕ → Option (List ℕ) → Finish → Type 0
HoldsBySize root_first steps root identifier given = ⊤
HoldsBySize size_first steps root identifier given = SizedHolds steps root identifier given

-- A finish: each value since the last clear holds, the first reference leads to the root, the
-- identifier follows, every alignment is kept, and the bytes are the fewest.
-- The format: a buffer begins with a reference to its root; four bytes that identify the file may
-- follow.
pub record FinishHolds (settings : CacheSettings) (steps : List Step)
    (given : Finish) : Type 0 where
  pub number : ℕ
  pub front : Front
  pub root : ℕ
  pub identifier : Option (List ℕ)
  pub step : slice_get steps number ≡ Some (finish front root identifier)
  pub state : RunState
  pub run : LeadsTo settings nothing_written (take (number + 1) steps) state
  pub bytes : given.bytes ≡ state.history.written.bytes
  pub places : given.places ≡ state.listed
  pub values : AllByRecursion (ValueHolds steps given) given.places
  pub leads : (distance : ℕ) × (value_at given.places root ≡ Some distance)
      × ReferenceStands given.bytes (root_at front) distance
  pub identified : BytesStand given.bytes (root_at front + 4) (identifier_bytes identifier)
  pub sized : HoldsBySize front steps root identifier given
  pub keeps : Keep state.history.written.promises (length given.bytes)
  pub fewest : IsFewest state.history.parts state.history.places given.bytes

-- whether a step is a finish
abbrev pub is_finish : Step → Bool
is_finish (finish front root identifier) = true
is_finish _ = false

-- the numbers of the finishes, counting from this number
abbrev pub finishes_from : ℕ → List Step → List ℕ
finishes_from n [] = []
finishes_from n (step ∷ steps) =
    if is_finish step then n ∷ finishes_from (n + 1) steps else finishes_from (n + 1) steps

-- the numbers of the finishes of a script
abbrev pub finishes_of : List Step → List ℕ
finishes_of steps = finishes_from 0 steps

pub record IsFinishOf (settings : CacheSettings) (steps : List Step) (number : ℕ)
    (given : Finish) : Type 0 where
  pub holds : FinishHolds settings steps given
  pub of_step : holds.number ≡ number

-- one finish for each number, in order
abbrev pub AreFinishesOf : CacheSettings → List Step → List ℕ → List Finish → Type 0
AreFinishesOf settings steps [] [] = ⊤
AreFinishesOf settings steps (number ∷ numbers) (given ∷ finished) =
    IsFinishOf settings steps number given × AreFinishesOf settings steps numbers finished
AreFinishesOf settings steps [] (given ∷ finished) = ⊥
AreFinishesOf settings steps (number ∷ numbers) [] = ⊥
