-- How a builder writes one entry.
use Rattle.std.specs.Prelude.{◌≡◌, ℕ, ◌+◌, ◌≤◌, List, [], ◌++◌, length, Option}
use Rattle.std.specs.Prelude.{Some, None, Result, Ok, Err, ◌⊎◌}
use Rattle.planus_back.specs.Promises.{Promise}
use Rattle.planus_back.specs.Padding.{greatest_place}
use Rattle.planus_back.specs.Parts.{Part}
use Rattle.planus_write.specs.Limits.{IsWithinLimit, ExceedsRoom}
use Rattle.planus_write.specs.Shared.{Contents, shared_as}
use Rattle.planus_write.specs.History.{History, Entry, part_after, found_before, Puts, PutsTooLarge}
use Rattle.planus_write.specs.State.{State, IsHistoryOf}
use Rattle.planus_write.specs.declared.errors.BuildError.{BuildError}
use Rattle.planus_write.specs.declared.errors.BuildError.TheVariants.{OutOfMemory, TooLarge}

-- What a call does: the builder before, the result, and the builder after.
abbrev pub Outcome : Type 0 → Type 1
Outcome A = State → Result A BuildError → State → Type 0

-- One call, and then another that takes its result. If the second fails, the first remains.
abbrev pub then_does : {A B : Type 0} → Outcome A → (A → Outcome B) → Outcome B
then_does {A} {B} first second old (Ok b) new = (a : A) × (between : State)
    × first old (Ok a) between × second a between (Ok b) new
then_does {A} {B} first second old (Err error) new =
    first old (Err error) new
    ⊎ ((a : A) × (between : State) × first old (Ok a) between
    × second a between (Err error) new)

-- The entry was written, in any history, and got this distance. Where padding and part fit the
-- room, the room falls by their bytes.
pub record PlacesEntry (entry : Entry) (got : List ℕ) (old : State) (distance : ℕ)
    (new : State) : Type 0 where
  pub grows : (front : List ℕ) × (new.bytes ≡ front ++ old.bytes)
  pub reached : distance ≤ length new.bytes
  pub fits : length new.bytes ≤ greatest_place
  pub puts : (history : History) → IsHistoryOf old history → (after : History)
      × Puts old.settings entry got history distance after × IsHistoryOf new after
  pub room : length new.bytes ≤ length old.bytes + old.room
      → length new.bytes + new.room ≡ length old.bytes + old.room
  pub settings : new.settings ≡ old.settings

-- Padding and part exceed the room. A shared part need only be within the limit, since its cache
-- may lack memory.
abbrev pub MayLackMemory : Option Contents → Part → State → List Promise → Type 0
MayLackMemory None part old promises =
    ExceedsRoom (length old.bytes) old.room part.size part.alignment promises
MayLackMemory (Some contents) part old promises =
    IsWithinLimit (length old.bytes) part.size part.alignment promises

pub record RefusedMemory (entry : Entry) (got : List ℕ) (old : State)
    (history : History) : Type 0 where
  pub is_new : found_before old.settings entry history ≡ None
  pub lacks : MayLackMemory (shared_as old.settings entry.contents)
      (part_after entry got history) old history.written.promises

abbrev pub RefusedFor : Entry → List ℕ → State → BuildError → Type 0
RefusedFor entry got old TooLarge = (history : History) → IsHistoryOf old history
    → PutsTooLarge old.settings entry got history
RefusedFor entry got old OutOfMemory = (history : History) → IsHistoryOf old history
    → RefusedMemory entry got old history

-- Unchanged, except that a shared part may have got room before its cache failed.
abbrev pub LeftAsItWas : BuildError → Option Contents → State → State → Type 0
LeftAsItWas OutOfMemory (Some contents) old new =
    (old.room ≤ new.room) × (new ≡ record old { room = new.room })
LeftAsItWas OutOfMemory None old new = new ≡ old
LeftAsItWas TooLarge shared old new = new ≡ old

-- The entry failed; no byte, constraint or cached contents have changed.
pub record Refuses (entry : Entry) (got : List ℕ) (old : State) (error : BuildError)
    (new : State) : Type 0 where
  pub unchanged : LeftAsItWas error (shared_as old.settings entry.contents) old new
  pub cause : RefusedFor entry got old error

-- The entry was written and got the returned distance, or it failed.
abbrev pub WritesEntry : Entry → List ℕ → Outcome ℕ
WritesEntry entry got old (Ok distance) new = PlacesEntry entry got old distance new
WritesEntry entry got old (Err error) new = Refuses entry got old error new

-- The same where the distance isn't returned.
abbrev pub WritesPart : Entry → Outcome (Unit {0})
WritesPart entry old (Ok done) new = WritesEntry entry [] old (Ok (length new.bytes)) new
WritesPart entry old (Err error) new = WritesEntry entry [] old (Err error) new
