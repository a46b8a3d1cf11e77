-- The contents at a distance from the end of some bytes.
use Rattle.std.specs.Prelude.{ℕ, ◌-◌, nat_le, List, length, take, drop, Option, Some, None}
use Rattle.std.specs.Prelude.{if◌then◌else◌}
use Rattle.std.specs.Int.{w16, w32, from_le_bytes}

abbrev pub first_bytes : ℕ → List ℕ → Option (List ℕ)
first_bytes count bytes = if nat_le count (length bytes) then Some (take count bytes) else None

-- The whole vtable at the front. The format: a vtable begins with its own size in bytes, a number
-- of 2 bytes.
abbrev pub vtable_in : List ℕ → Option (List ℕ)
vtable_in bytes =
    if nat_le 2 (length bytes) then first_bytes (from_le_bytes w16 (take 2 bytes)) bytes else None

-- The bytes after the count at the front. The format: a string and a byte vector begin with a
-- count, a number of 4 bytes.
abbrev pub bytes_in : List ℕ → Option (List ℕ)
bytes_in bytes =
    if nat_le 4 (length bytes)
    then first_bytes (from_le_bytes w32 (take 4 bytes)) (drop 4 bytes) else None

-- the key at a distance from the end, none if there are fewer bytes
abbrev pub key_at : (List ℕ → Option (List ℕ)) → List ℕ → ℕ → Option (List ℕ)
key_at key_in bytes distance =
    if nat_le distance (length bytes) then key_in (drop (length bytes - distance) bytes) else None
