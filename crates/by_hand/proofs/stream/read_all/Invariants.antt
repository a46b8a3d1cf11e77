use Rattle.std.proofs.Common.{map}
use Rattle.planus.specs.read.Slices.{slice_bytes}
use Rattle.by_hand.specs.Streams.{BeginsWith}
use Rattle.by_hand.proofs.ReadStreams.{FaultsFor, still_to_read}
use Rattle.by_hand.proofs.stream.read_all.Given as goal

abbrev pub invariant-loop-rest : goal.invariant-loop-rest
invariant-loop-rest l = record {
  begins : BeginsWith l.stream (map slice_bytes l.slices.items) l.rest;
  faults : FaultsFor l.fault l.rest;
}

abbrev pub decreases-loop-rest : goal.decreases-loop-rest
decreases-loop-rest l = still_to_read l.fault l.rest
