-- Size-prefixed finishes, read one after another.
use Rattle.std.specs.Prelude.{◌≡◌, List, ◌++◌, drop, map, ℕ}
use Rattle.std.specs.List.{AllByRecursion, concat}
use Rattle.planus_read.specs.ReadingLaws.{IsAnswered}
use Rattle.planus_read.specs.SizePrefixed.{prefixed_reading, StreamReads}
use Rattle.planus_write.specs.Shared.{CacheSettings}
use Rattle.planus.specs.Steps.{Step, size_first}
use Rattle.planus.specs.Runs.{Finish}
use Rattle.planus.specs.FinishHolds.{FinishHolds, SizedHolds}

-- A size-prefixed finish is read with exactly its bytes, and every value reads back.
abbrev pub SizedFinishesAreRead : Type 0
SizedFinishesAreRead =
    (settings : CacheSettings) (steps : List Step) (given : Finish)
    → (holds : FinishHolds settings steps given) → holds.front ≡ size_first → (rest : List ℕ)
    → IsAnswered (prefixed_reading (given.bytes ++ rest))
    (record { content = drop 4 given.bytes; rest = rest })
    × SizedHolds steps holds.root holds.identifier given

pub record IsGivenSized (given : Finish) : Type 0 where
  pub settings : CacheSettings
  pub steps : List Step
  pub holds : FinishHolds settings steps given
  pub sized : holds.front ≡ size_first

abbrev pub bytes_given : List Finish → List (List ℕ)
bytes_given finishes = map (λ given. given.bytes) finishes

-- Such finishes, one after another, are read one by one.
abbrev pub SizedStreamsAreRead : Type 0
SizedStreamsAreRead =
    (finishes : List Finish) (left : List ℕ) → AllByRecursion IsGivenSized finishes
    → StreamReads (concat (bytes_given finishes) ++ left) (bytes_given finishes) left
