-- Stored values: strings, vectors, tables, and the structs of unions, which stand by themselves.
use Rattle.std.specs.Prelude.{ℕ, ◌≤◌, List, drop, length, Option}
use Rattle.planus_read.specs.Aligned.{AlignedAt}
use Rattle.planus_read.specs.Bytes.{position_of}
use Rattle.planus_read.specs.Stands.{Stands, ApartStands, at}
use Rattle.planus_read.specs.Values.{Value}
use Rattle.planus_write.specs.Contents.{Comes, named_at}
use Rattle.planus_write.specs.Finishing.{FinishGives, SizedFinishGives}
use Rattle.planus_write.specs.History.{History}
use Rattle.planus_write.specs.Kept.{IsKept}
use Rattle.planus_write.specs.Parts.{Named, position_in}
use Rattle.planus_write.specs.Placing.{Outcome}
use Rattle.planus_write.specs.State.{State, IsHistoryOf, Grows}
use Rattle.planus_write.specs.declared.offset.Offset.{Offset}
use Rattle.planus.specs.Contents.{StillKept}

-- the value is stored at the distance, and nothing is lost
abbrev pub KeepsValue : Value → State → ℕ → State → Type 0
KeepsValue value old distance new =
    (history : History) → IsHistoryOf old history
    → Comes history new (λ after. StillKept history after
    × IsKept after value (named_at distance))

-- the value is encoded at a distance from the end
abbrev pub StandsFromEnd : List ℕ → Value → ℕ → Type 0
StandsFromEnd B value distance = Stands B (at (position_of B distance)) value

-- a struct of these bytes stands by itself in a builder, at a distance from the end
pub record StructStandsIn (builder : State) (bytes : List ℕ) (distance : ℕ) : Type 0 where
  pub reached : distance ≤ length builder.bytes
  pub stands : ApartStands builder.bytes (position_of builder.bytes distance) bytes

-- Each value that is encoded in a builder is encoded in B.
abbrev pub ValuesStandIn : List ℕ → State → Type 0
ValuesStandIn B builder =
    (value : Value) (distance : ℕ) → distance ≤ length builder.bytes
    → StandsFromEnd builder.bytes value distance → StandsFromEnd B value distance

-- It is encoded in the builder as that grows.
abbrev pub ValuesStandOn : Type 0
ValuesStandOn = (old new : State) → Grows old new → ValuesStandIn new.bytes old

-- It is encoded in the bytes of any finish.
abbrev pub ValuesStandFinished : {X T : Type 0} → (X → State → Type 0) → (X → Outcome (Offset T))
    → Type 0
ValuesStandFinished {X} may outcome =
    (state : State) (root : X) (identifier : Option (List ℕ)) (B : List ℕ) → may root state
    → FinishGives (outcome root) identifier state B → ValuesStandIn B state

-- A stored value is encoded in the bytes of any finish, and aligned.
abbrev pub FinishesKeepValues : {X T : Type 0} → (X → State → Type 0) → (X → Outcome (Offset T))
    → Type 0
FinishesKeepValues {X} may outcome =
    (value : Value) (named : Named) (history : History) (state : State) (root : X)
    (identifier : Option (List ℕ)) (B : List ℕ) → IsHistoryOf state history
    → IsKept history value named → may root state → FinishGives (outcome root) identifier state B
    → Stands B (position_in B named) value × AlignedAt B (position_in B named) value

-- The same for a size-prefixed finish, and that it is encoded after its size.
abbrev pub SizedFinishesKeepValues : {X T : Type 0} → (X → State → Type 0)
    → (X → Outcome (Offset T)) → Type 0
SizedFinishesKeepValues {X} may outcome =
    (value : Value) (named : Named) (history : History) (state : State) (root : X)
    (identifier : Option (List ℕ)) (B : List ℕ) → IsHistoryOf state history
    → IsKept history value named → may root state
    → SizedFinishGives (outcome root) identifier state B
    → Stands B (position_in B named) value × AlignedAt B (position_in B named) value
    × Stands (drop 4 B) (position_in (drop 4 B) named) value
