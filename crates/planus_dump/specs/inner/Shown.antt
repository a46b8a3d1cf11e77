-- How events add to the lines so far.
use Rattle.std.specs.Prelude.{ℕ, ◌-◌, nat_lt, Option, Some, None, List, [], ◌∷◌, ◌++◌, length}
use Rattle.std.specs.Prelude.{if◌then◌else◌, ◌==◌}
use Rattle.std.specs.String.{string_bytes}
use Rattle.planus_dump.specs.Events.{Event, line, faulty, deep, float}
use Rattle.planus_dump.specs.declared.line.Line.{Line}
use Rattle.planus_dump.specs.declared.line.Line.TheVariants.{Text, Fault, Float}
use Rattle.planus_dump.specs.Views.{cost}
use Rattle.planus_dump.specs.declared.end.End.{End}
use Rattle.planus_dump.specs.declared.end.End.TheVariants.{Whole, TooDeep, TooManyLines, TooManyBytes}

abbrev pub event_of : Line → Event
event_of (Text text) = line (string_bytes text)
event_of (Fault text) = faulty (string_bytes text)
event_of (Float path number) = float (string_bytes path) number

-- the lines so far, their greatest number, the bytes left, and whether the walk goes on
pub record Shown : Type 0 where
  pub lines : List Event
  pub budget : ℕ
  pub room : Option ℕ
  pub end : End

abbrev pub begin : ℕ → Option ℕ → Shown
begin budget room = record { lines = []; budget = budget; room = room; end = Whole }

abbrev pub by_room : Shown → Event → Option ℕ → Shown
by_room s e None = record s { lines = s.lines ++ e ∷ [] }
by_room s e (Some room) =
    if nat_lt room (cost e) then record s { end = TooManyBytes }
    else record s { lines = s.lines ++ e ∷ []; room = Some (room - cost e) }

abbrev pub added : Shown → Event → Shown
added s e =
    if length s.lines == s.budget then record s { end = TooManyLines } else by_room s e s.room

abbrev pub going : Shown → Event → Shown
going s deep = record s { end = TooDeep }
going s (line l) = added s (line l)
going s (faulty l) = added s (faulty l)
going s (float path number) = added s (float path number)

abbrev pub step_at : Shown → End → Event → Shown
step_at s Whole e = going s e
step_at s TooDeep e = s
step_at s TooManyLines e = s
step_at s TooManyBytes e = s

-- a walk that was stopped stays as it is
abbrev pub step : Shown → Event → Shown
step s e = step_at s s.end e

abbrev pub feed : Shown → List Event → Shown
feed s [] = s
feed s (e ∷ es) = feed (step s e) es
