use Rattle.std.proofs.Common.{map}
use Rattle.std.specs.String.{string_bytes}
use Rattle.planus_dump.specs.Dumped.{AreShown}
use Rattle.planus_dump.specs.inner.Shown.{event_of}
use Rattle.planus_dump.proofs.floats.line_texts.Given as goal

abbrev pub invariant-loop-line : goal.invariant-loop-line
invariant-loop-line l = AreShown (map event_of l.yielded) (map string_bytes l.texts.items)
