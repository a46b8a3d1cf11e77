-- What is written of a buffer.
use Rattle.std.specs.Prelude.{◌≡◌, ℕ, ◌&&◌, not, Bool, true, false, List, [], ◌++◌}
use Rattle.std.specs.Prelude.{codes, Option, take, length, ◌<◌, ◌≤◌, ◌+◌, ◌⊎◌}
use Rattle.std.specs.Int.{from_le_bytes, w32}
use Rattle.std.specs.Io.KnownBytes.{Appends, Keeps}
use Rattle.planus_dump.specs.Schemas.{is_good}
use Rattle.planus_cli.specs.declared.streams.CallError.{CallError}
use Rattle.planus_cli.specs.declared.streams.CallError.TheVariants.{OutOfMemory, Read, Write}
use Rattle.planus_cli.specs.declared.streams.CallError.TheVariants.{BadSchema}
use Rattle.planus_dump.specs.Dumped.{events_of}
use Rattle.planus_dump.specs.Views.{Viewed, IsTold, lines_text}
use Rattle.planus_dump.specs.Writing.{WritesBeginning}
use Rattle.planus_dump.specs.declared.schemas.Schema.{Schema}
use Rattle.planus_dump.specs.declared.view_error.ViewError.{ViewError}
use Rattle.planus_dump.specs.declared.view_error.ViewError.TheVariants as errors
use Rattle.planus_dump.specs.declared.views.Seen.{Seen}
use Rattle.planus_dump.specs.declared.end.End.{End}
use Rattle.planus_dump.specs.declared.end.End.TheVariants.{Whole, TooDeep, TooManyLines}
use Rattle.planus_dump.specs.declared.end.End.TheVariants.{TooManyBytes}

abbrev pub end_text : End → List ℕ
end_text Whole = []
end_text TooDeep = codes ".. what follows is nested too deep\n"
end_text TooManyLines = codes ".. more lines follow; see --lines\n"
end_text TooManyBytes = codes ".. more bytes follow; see --bytes\n"

abbrev pub view_text : List (List ℕ) → End → List ℕ
view_text lines end = lines_text lines ++ end_text end

abbrev pub is_whole : End → Bool
is_whole Whole = true
is_whole TooDeep = false
is_whole TooManyLines = false
is_whole TooManyBytes = false

-- all is shown, and no line states an error
abbrev pub is_clean : End → Bool → Bool
is_clean end fault = is_whole end && not fault

-- the limit was reached
abbrev pub is_cut : End → Bool
is_cut Whole = false
is_cut TooDeep = false
is_cut TooManyLines = true
is_cut TooManyBytes = true

-- The first lines of the buffer were written, and why they end; what `seen` tells of them is so.
pub record WritesView (schema : Schema) (bytes : List ℕ) (most size : ℕ) (seen : Seen)
    (before after : Option (List ℕ)) : Type 0 where
  pub lines : List (List ℕ)
  pub viewed : Viewed schema bytes most size lines seen.end
  pub told : IsTold (events_of schema bytes) lines most size seen
  pub written : Appends before after (view_text lines seen.end)

-- a beginning of the first lines of the buffer was written, and nothing else
pub record BeginsView (schema : Schema) (bytes : List ℕ) (most size : ℕ)
    (before after : Option (List ℕ)) : Type 0 where
  pub lines : List (List ℕ)
  pub end : End
  pub viewed : Viewed schema bytes most size lines end
  pub written : WritesBeginning (view_text lines end) before after

-- Memory was refused or writing failed, after a beginning of the lines; or the schema is bad, and
-- nothing was written.
abbrev pub FailsViewing : Schema → List ℕ → ℕ → ℕ → CallError → Option (List ℕ) → Option (List ℕ)
    → Type 0
FailsViewing schema bytes most size OutOfMemory before after =
    BeginsView schema bytes most size before after
FailsViewing schema bytes most size Read before after = ⊥
FailsViewing schema bytes most size Write before after =
    BeginsView schema bytes most size before after
FailsViewing schema bytes most size BadSchema before after =
    (is_good schema ≡ false) × Keeps before after

abbrev pub call_error : ViewError → CallError
call_error errors.OutOfMemory = OutOfMemory
call_error errors.BadSchema = BadSchema
call_error errors.Write = Write

-- a buffer after its size, a number of four bytes, and what follows it
pub record SplitsSized (bytes buffer rest : List ℕ) : Type 0 where
  pub has_size : 4 ≤ length bytes
  pub size : from_le_bytes w32 (take 4 bytes) ≡ length buffer
  pub parts : bytes ≡ take 4 bytes ++ (buffer ++ rest)
  pub shorter : length rest < length bytes

-- the bytes end in the size, or before the buffer does
abbrev pub EndsEarly : List ℕ → Type 0
EndsEarly bytes = (length bytes < 4) ⊎ (length bytes < 4 + from_le_bytes w32 (take 4 bytes))
