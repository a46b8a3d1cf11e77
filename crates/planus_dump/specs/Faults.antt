-- Which lines of a dump state an error.
use Rattle.std.specs.Prelude.{◌≡◌, List, Bool, true, false}
use Rattle.std.specs.List.{AllByRecursion}
use Rattle.planus_dump.specs.Events.{Event, line, faulty, deep, float}

abbrev pub is_fault : Event → Bool
is_fault (line l) = false
is_fault (faulty l) = true
is_fault deep = false
is_fault (float path number) = false

abbrev pub IsNoFault : Event → Type 0
IsNoFault e = is_fault e ≡ false

abbrev pub HaveNoFault : List Event → Type 0
HaveNoFault es = AllByRecursion IsNoFault es
