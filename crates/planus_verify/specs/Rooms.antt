-- How many bytes there are from a reference's target on.
use Rattle.std.specs.Prelude.{◌≡◌, ℕ, ◌+◌, ◌≤◌, List, length, Result, Ok, Err}
use Rattle.std.specs.Int.{w32, byte_len}
use Rattle.planus_read.specs.Clauses.{FirstBroken}
use Rattle.planus_read.specs.Reading.{target}
use Rattle.planus_read.specs.declared.errors.ErrorKind.{ErrorKind}
use Rattle.planus_read.specs.Reading.{plain_ref_clauses}
use Rattle.planus_verify.specs.declared.struct_room.StructRoom.{StructRoom}

-- The reference at f leads to so many bytes, or to none of any size.
abbrev pub IsRoom : List ℕ → ℕ → Result StructRoom ErrorKind → Type 0
IsRoom S f (Ok room) = (f + byte_len w32 ≤ length S) × (target S f + room.bytes ≡ length S)
IsRoom S f (Err e) = (size : ℕ) → FirstBroken (plain_ref_clauses size S f) e
