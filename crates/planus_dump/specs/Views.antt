-- A dump as far as it is wanted.
use Rattle.std.specs.Prelude.{◌≡◌, ◌≢◌, ℕ, ◌+◌, ◌<◌, ◌≤◌, List, [], ◌∷◌, ◌++◌, length, true, false}
use Rattle.std.specs.Prelude.{Option}
use Rattle.std.specs.List.{flat_map, list_any}
use Rattle.std.specs.Io.KnownBytes.{Appends, Keeps}
use Rattle.planus_dump.specs.Events.{Event, line, faulty, deep, float}
use Rattle.planus_dump.specs.Dumped.{Begin, events_of}
use Rattle.planus_dump.specs.Faults.{is_fault}
use Rattle.planus_dump.specs.Schemas.{is_good}
use Rattle.planus_dump.specs.Writing.{WritesBeginning}
use Rattle.planus_dump.specs.declared.schemas.Schema.{Schema}
use Rattle.planus_dump.specs.declared.end.End.{End}
use Rattle.planus_dump.specs.declared.end.End.TheVariants as ends
use Rattle.planus_dump.specs.declared.views.Seen.{Seen}
use Rattle.planus_dump.specs.declared.view_error.ViewError.{ViewError}
use Rattle.planus_dump.specs.declared.view_error.ViewError.TheVariants as errors

-- the bytes of a line; the text of a float counts 32
abbrev pub cost : Event → ℕ
cost (line l) = length l
cost (faulty l) = length l
cost deep = 0
cost (float path number) = length path + 35

abbrev pub costs : List Event → ℕ
costs [] = 0
costs (e ∷ es) = cost e + costs es

-- the lines of the first events, not more than wanted
pub record ViewsPart (es : List Event) (lines : List (List ℕ)) (rest : List Event) (most size : ℕ)
    : Type 0 where
  pub begin : Begin es lines rest
  pub few : length lines ≤ most
  pub small : costs begin.front ≤ size

abbrev pub EndsBy : End → List Event → List (List ℕ) → ℕ → ℕ → Type 0
EndsBy ends.Whole es lines most size = ViewsPart es lines [] most size
EndsBy ends.TooDeep es lines most size =
    (rest : List Event) × ViewsPart es lines (deep ∷ rest) most size
EndsBy ends.TooManyLines es lines most size =
    (next : Event) × (rest : List Event) × (next ≢ deep)
    × ViewsPart es lines (next ∷ rest) most size × (length lines ≡ most)
EndsBy ends.TooManyBytes es lines most size =
    (next : Event) × (rest : List Event) × (next ≢ deep)
    × (part : ViewsPart es lines (next ∷ rest) most size)
    × (size < costs part.begin.front + cost next)

-- the first lines of a buffer, not more than wanted, and why they end
pub record Viewed (schema : Schema) (bytes : List ℕ) (most size : ℕ)
    (lines : List (List ℕ)) (end : End) : Type 0 where
  pub good : is_good schema ≡ true
  pub ends : EndsBy end (events_of schema bytes) lines most size

-- a line feed after each line
abbrev pub lines_text : List (List ℕ) → List ℕ
lines_text lines = flat_map (λ line. line ++ 10 ∷ []) lines

-- The lines are those of the first events. It is told whether one states an error, and how many lines
-- and bytes are left of what is wanted.
pub record IsTold (es : List Event) (lines : List (List ℕ)) (most size : ℕ) (seen : Seen) : Type 0
  where
    pub rest : List Event
    pub begin : Begin es lines rest
    pub fault : seen.has_fault ≡ list_any is_fault begin.front
    pub lines_left : length lines + seen.lines_left ≡ most
    pub bytes_left : costs begin.front + seen.bytes_left ≡ size

-- The first lines of the buffer were written, and what `seen` tells of them is so.
pub record WritesView (schema : Schema) (bytes : List ℕ) (most size : ℕ) (seen : Seen)
    (before after : Option (List ℕ)) : Type 0 where
  pub lines : List (List ℕ)
  pub viewed : Viewed schema bytes most size lines seen.end
  pub told : IsTold (events_of schema bytes) lines most size seen
  pub written : Appends before after (lines_text lines)

-- a beginning of the first lines of the buffer was written, and nothing else
pub record BeginsView (schema : Schema) (bytes : List ℕ) (most size : ℕ)
    (before after : Option (List ℕ)) : Type 0 where
  pub lines : List (List ℕ)
  pub end : End
  pub viewed : Viewed schema bytes most size lines end
  pub begun : WritesBeginning (lines_text lines) before after

-- `BadSchema` exactly for a bad schema, and nothing was written; else memory was refused or writing
-- failed, after a beginning of the lines.
abbrev pub FailsView : Schema → List ℕ → ℕ → ℕ → ViewError → Option (List ℕ) → Option (List ℕ)
    → Type 0
FailsView schema bytes most size errors.BadSchema before after =
    (is_good schema ≡ false) × Keeps before after
FailsView schema bytes most size errors.OutOfMemory before after =
    BeginsView schema bytes most size before after
FailsView schema bytes most size errors.Write before after =
    BeginsView schema bytes most size before after
