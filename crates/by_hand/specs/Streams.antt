-- Streams of size-prefixed buffers.
use Rattle.std.specs.Prelude.{◌≡◌, ℕ, ◌<◌, List, [], ◌∷◌, ◌++◌, length, map, Option, Some, None}
use Rattle.planus.specs.read.declared.errors.ErrorKind.{ErrorKind}
use Rattle.planus.specs.read.Clauses.{FirstBroken}
use Rattle.planus.specs.read.Slices.{slice_bytes}
use Rattle.planus.specs.read.SizePrefixed.{PrefixedThere, IsPrefixed, prefixed_clauses}
use Rattle.planus.specs.write.declared.offset.Text.{Text}
use Rattle.planus.specs.write.History.{no_history}
use Rattle.planus.specs.write.State.{State, IsHistoryOf}
use Rattle.planus.specs.write.Preparing.{WritesText}
use Rattle.planus.specs.write.Finishing.{SizedFinishGives}
use Rattle.by_hand.specs.declared.stream.Records.{Records}

-- This string was appended as a size-prefixed finish.
pub record IsAppended (text old new : List ℕ) : Type 0 where
  pub builder : State
  pub history : IsHistoryOf builder no_history
  pub buffer : List ℕ
  pub given : SizedFinishGives {T = Text} (WritesText text) None builder buffer
  pub size : IsPrefixed buffer
  pub behind : new ≡ old ++ buffer

-- Buffers of these contents come first, then the rest.
abbrev pub BeginsWith : List ℕ → List (List ℕ) → List ℕ → Type 0
BeginsWith stream [] rest = stream ≡ rest
BeginsWith stream (content ∷ contents) rest =
    (next : List ℕ) × PrefixedThere stream content next × BeginsWith next contents rest

-- Nothing is left, or it fails with this error.
abbrev pub EndsFor : Option ErrorKind → List ℕ → Type 0
EndsFor None rest = rest ≡ []
EndsFor (Some error) rest = (0 < length rest) × FirstBroken (prefixed_clauses rest) error

-- All buffers are read, up to the first that fails.
pub record ReadsAll (stream : List ℕ) (records : Records) : Type 0 where
  pub rest : List ℕ
  pub begins : BeginsWith stream (map slice_bytes records.slices.items) rest
  pub ends : EndsFor records.fault rest
