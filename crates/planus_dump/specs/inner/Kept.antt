-- Lines that are kept.
use Rattle.std.specs.Prelude.{◌≡◌, List, ◌++◌, map}
use Rattle.std.specs.Global.{Vec}
use Rattle.planus_dump.specs.Events.{Event}
use Rattle.planus_dump.specs.declared.line.Line.{Line}
use Rattle.planus_dump.specs.inner.Shown.{event_of}

-- the lines of these events were added
abbrev pub KeepsLines : Vec Line → List Event → Vec Line → Type 0
KeepsLines start es now = map event_of now.items ≡ map event_of start.items ++ es
