-- What takes the lines of a walk.
use Rattle.std.specs.Prelude.{List, [], ◌∷◌, ◌++◌, Result, Ok, Err}
use Rattle.planus_dump.specs.Events.{Event}

-- of what takes lines, the lines, and what took them
abbrev pub Takes : Type 0 → Type 1
Takes L = L → List Event → L → Type 0

-- one more line is taken, or is the one at which it fails
abbrev pub Puts : {L U E : Type 0} → Takes L → Takes L → L → Event → Result U E → L → Type 0
Puts takes breaks old e (Ok u) new =
    (start : _) (es : List Event) → takes start es old → takes start (es ++ e ∷ []) new
Puts takes breaks old e (Err error) new =
    (start : _) (es : List Event) → takes start es old → breaks start (es ++ e ∷ []) new
