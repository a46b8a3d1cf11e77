-- Laws between a dump and the run that wrote its buffer.
use Rattle.std.specs.Prelude.{◌≡◌, ℕ, List, drop, true}
use Rattle.planus_write.specs.Shared.{CacheSettings}
use Rattle.planus.specs.Steps.{Step}
use Rattle.planus.specs.Runs.{Finish}
use Rattle.planus.specs.FinishHolds.{FinishHolds, root_at}
use Rattle.planus_dump.specs.Faults.{HaveNoFault}
use Rattle.planus_dump.specs.Describes.{Fits}
use Rattle.planus_dump.specs.Dumped.{events_of}
use Rattle.planus_dump.specs.Schemas.{is_good}
use Rattle.planus_dump.specs.declared.schemas.Schema.{Schema}

-- the bytes from the root's reference on: all of them, or those after the size
abbrev pub slice_of : (settings : CacheSettings) (steps : List Step) (given : Finish)
    → FinishHolds settings steps given → List ℕ
slice_of settings steps given holds = drop (root_at holds.front) given.bytes

-- No event of a finish is an error, if the schema fits its root.
abbrev pub FinishesHaveNoFault : Type 0
FinishesHaveNoFault =
    (settings : CacheSettings) (steps : List Step) (given : Finish)
    → (holds : FinishHolds settings steps given) → (schema : Schema) → is_good schema ≡ true
    → Fits schema steps holds.root
    → HaveNoFault (events_of schema (slice_of settings steps given holds))
