-- What a walk does with events.
use Rattle.std.specs.Prelude.{◌≡◌, ◌≢◌, ◌⊎◌, ℕ, ◌+◌, ◌-◌, ◌<◌, ◌≤◌, List, [], ◌∷◌, ◌++◌, length, ⊤}
use Rattle.std.specs.Prelude.{Option, Some, None, Bool, true, false, Result, Ok, Err}
use Rattle.planus_dump.specs.Events.{Event, deep}
use Rattle.planus_dump.specs.Views.{cost}
use Rattle.planus_dump.specs.inner.Shown.{Shown, feed}
use Rattle.planus_dump.specs.inner.Taking.{Takes}
use Rattle.planus_dump.specs.declared.line_sink.LineSink.{LineSink}
use Rattle.planus_dump.specs.declared.end.End.TheVariants.{Whole}
use Rattle.planus_dump.specs.declared.sink_error.SinkError.{SinkError}

abbrev pub Fits : Option ℕ → ℕ → Type 0
Fits None n = ⊤
Fits (Some room) n = n ≤ room

abbrev pub left_in : Option ℕ → ℕ → Option ℕ
left_in None n = None
left_in (Some room) n = Some (room - n)

-- the walk goes on, and a line of this size may come
pub record IsOpen {L : Type 0} (out : LineSink L) (size : ℕ) : Type 0 where
  pub going : out.end ≡ Whole
  pub some : 0 < out.left
  pub fits : Fits out.room size

abbrev pub IsStopped : {L : Type 0} → LineSink L → Bool → Type 0
IsStopped out true = out.end ≢ Whole
IsStopped out false = out.end ≡ Whole

abbrev pub FeedResult : Type 0
FeedResult = Result (Unit {0}) SinkError

module _ {L : Type 0} (takes breaks : Takes L) where
  -- since the start, these lines were taken
  pub record Shows (start : L) (out : LineSink L) (s : Shown) : Type 0 where
    pub lines : takes start s.lines out.lines
    pub left : length s.lines + out.left ≡ s.budget
    pub room : out.room ≡ s.room
    pub end : out.end ≡ s.end

  -- the first of these lines were taken, or the last of them is the one at which it failed
  pub record Breaks (start : L) (lines : List Event) (now : L) : Type 0 where
    pub front : List Event
    pub rest : List Event
    pub split : lines ≡ front ++ rest
    pub broken : takes start front now ⊎ breaks start front now

  -- The events were fed to the lines so far, or a beginning of them was.
  unfoldable pub Fed : LineSink L → List Event → FeedResult → LineSink L → Type 0
  Fed old es (Ok u) new = (start : L) (s : Shown) → Shows start old s → Shows start new (feed s es)
  Fed old es (Err error) new =
      (start : L) (s : Shown) → Shows start old s → Breaks start (feed s es).lines new.lines

  abbrev pub Feeds : LineSink L → List Event → FeedResult → LineSink L → Type 0
  Feeds old given result new = (es : List Event) → es ≡ given → Fed old es result new

  -- the same where nothing can fail
  abbrev pub Does : LineSink L → List Event → LineSink L → Type 0
  Does old given new = Feeds old given (Ok (tt {0})) new

  -- A line of at least so many bytes may be made, or it is given up: the walk is as after it.
  abbrev pub MayMake : LineSink L → ℕ → Bool → LineSink L → Type 0
  MayMake old size true new = (new ≡ old) × IsOpen old size
  MayMake old size false new = (e : Event) → e ≢ deep → size ≤ cost e → Does old (e ∷ []) new
