use Rattle.planus.proofs.Streams.{sized_finishes_are_read, sized_streams_are_read}
use Rattle.planus.proofs.laws.sized_finishes_are_read.Goals as goal

pub returns-clause-one : goal.returns-clause-one
returns-clause-one c = sized_finishes_are_read

pub returns-clause-stream : goal.returns-clause-stream
returns-clause-stream c = sized_streams_are_read
