use Rattle.std.proofs.Common.{◌≡◌, ◌+◌, ◌++◌, map, drop}
use Rattle.planus.specs.Replays.{place_of}
use Rattle.planus.specs.inner.Names.{name_of, listed_from}
use Rattle.planus.proofs.replaying.state.places_of.Given as goal

abbrev pub invariant-loop-index : goal.invariant-loop-index
invariant-loop-index l =
    map place_of l.places.items ++ listed_from (l.first + l.index) (map name_of (drop l.index l.offsets)) ≡ listed_from l.first (map name_of l.offsets)
