-- The error of bytes that aren't UTF-8.
use Rattle.std.specs.Prelude.{◌≡◌, List, ℕ, drop}
use Rattle.std.specs.Str.{IsUtf8, valid_up_to, error_len}
use Rattle.std.specs.Str.Lossy.{utf8_valid_len, utf8_error_len}
use Rattle.std.specs.declared.str.Utf8Error.{Utf8Error}
use Rattle.planus_read.specs.declared.errors.ErrorKind.{ErrorKind}
use Rattle.planus_read.specs.declared.errors.ErrorKind.TheVariants.{InvalidUtf8}
use Rattle.planus_read.specs.Clauses.{Clause}

-- after the longest valid prefix; at the end it has no invalid bytes
pub record IsFirstFault (bytes : List ℕ) (fault : Utf8Error) : Type 0 where
  pub valid_len : valid_up_to fault ≡ utf8_valid_len bytes
  pub fault_len : error_len fault ≡ utf8_error_len (drop (utf8_valid_len bytes) bytes)

abbrev pub IsUtf8Error : List ℕ → ErrorKind → Type 0
IsUtf8Error bytes (InvalidUtf8 source) = IsFirstFault bytes source
IsUtf8Error bytes _ = ⊥

abbrev pub utf8_clause : List ℕ → Clause
utf8_clause bytes = record { holds = IsUtf8 bytes; errors = IsUtf8Error bytes }
