-- Size-prefixed finishes are read one by one.
use Rattle.std.proofs.Common.{◌≡◌, List, [], ◌∷◌, subst}
use Rattle.std.specs.List.{AllByRecursion}
use Rattle.planus_read.specs.SizePrefixed.{IsPrefixed}
use Rattle.planus_read.proofs.SizePrefixed.{buffers_are_read, streams_read}
use Rattle.planus_write.specs.Shared.{CacheSettings}
use Rattle.planus.specs.Steps.{Step, Front, size_first}
use Rattle.planus.specs.Runs.{Finish}
use Rattle.planus.specs.FinishHolds.{FinishHolds, SizedHolds, HoldsBySize}
use Rattle.planus.specs.Streams.{SizedFinishesAreRead, SizedStreamsAreRead, IsGivenSized}
use Rattle.planus.specs.Streams.{bytes_given}

sized_holds : (settings : CacheSettings) (steps : List Step) (given : Finish) (holds : FinishHolds settings steps given) → holds.front ≡ size_first → SizedHolds steps holds.root holds.identifier given
sized_holds settings steps given holds sized = subst (λ (front : Front). HoldsBySize front steps holds.root holds.identifier given) sized holds.sized

pub sized_finishes_are_read : SizedFinishesAreRead
sized_finishes_are_read settings steps given holds sized rest =
    let all : SizedHolds steps holds.root holds.identifier given = sized_holds settings steps given holds sized in
    (buffers_are_read given.bytes rest all.size, all)

all_prefixed : (finishes : List Finish) → AllByRecursion IsGivenSized finishes → AllByRecursion IsPrefixed (bytes_given finishes)
all_prefixed [] h = tt
all_prefixed (given ∷ finishes) h =
    ((sized_holds h.0.settings h.0.steps given h.0.holds h.0.sized).size, all_prefixed finishes h.1)

pub sized_streams_are_read : SizedStreamsAreRead
sized_streams_are_read finishes left h = streams_read (bytes_given finishes) left (all_prefixed finishes h)
