-- Whether what reads the output is gone, and how the program then ends.
use Rattle.std.specs.Prelude.{◌≡◌, ℕ, Bool, true, false, List, Option, Result, Ok, Err}
use Rattle.std.specs.Io.KnownBytes.{Keeps}
use Rattle.std.specs.IoError.{error_kind}
use Rattle.std.specs.declared.io.Error.{Error}
use Rattle.std.specs.declared.io.ErrorKind.{ErrorKind}
use Rattle.std.specs.declared.io.ErrorKind.TheVariants.{BrokenPipe}
use Rattle.planus_dump.specs.Writing.{WritesBeginning}
use Rattle.planus_cli.specs.declared.streams.CallError.{CallError}
use Rattle.planus_cli.specs.declared.streams.CallError.TheVariants.{OutOfMemory, Read, Write}
use Rattle.planus_cli.specs.declared.streams.CallError.TheVariants.{BadSchema}
use Rattle.planus_cli.specs.SchemaTexts.{reason_of}

-- what reads from a pipe is gone
abbrev pub is_broken : ErrorKind → Bool
is_broken BrokenPipe = true
is_broken _ = false

-- a call that writes failed since what reads is gone
abbrev pub breaks : {T : Type 0} → Result T Error → Bool
breaks (Ok value) = false
breaks (Err error) = is_broken (error_kind error)

-- Writing failed, and what reads the output is gone.
abbrev pub ends_quietly : CallError → Bool → Bool
ends_quietly OutOfMemory closed = false
ends_quietly Read closed = false
ends_quietly Write closed = closed
ends_quietly BadSchema closed = false

-- The status is 0 and nothing is said, or it is 2 and the reason is said, as far as that can be
-- written.
abbrev pub EndsBy : Bool → CallError → ℕ → Option (List ℕ) → Option (List ℕ) → Type 0
EndsBy true error status unsaid said = (status ≡ 0) × Keeps unsaid said
EndsBy false error status unsaid said =
    (status ≡ 2) × WritesBeginning (reason_of error) unsaid said

-- how the program ends where a call fails
abbrev pub Ends : CallError → Bool → ℕ → Option (List ℕ) → Option (List ℕ) → Type 0
Ends error closed status unsaid said =
    EndsBy (ends_quietly error closed) error status unsaid said
