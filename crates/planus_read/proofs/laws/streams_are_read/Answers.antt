use Rattle.planus_read.proofs.SizePrefixed.{buffers_are_read, streams_read, cuts_are_refused}
use Rattle.planus_read.proofs.laws.streams_are_read.Goals as goal

pub returns-clause-first : goal.returns-clause-first
returns-clause-first c = buffers_are_read

pub returns-clause-read : goal.returns-clause-read
returns-clause-read c = streams_read

pub returns-clause-cut : goal.returns-clause-cut
returns-clause-cut c = cuts_are_refused
