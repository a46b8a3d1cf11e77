use Rattle.std.specs.Prelude.{ℕ, List, length, take, nat_le, if◌then◌else◌}
use Rattle.std.specs.Int.{w64, from_le_bytes}
use Rattle.planus_back.specs.declared.identity_hasher.IdentityHasher.{IdentityHasher}

abbrev pub after_write : IdentityHasher → List ℕ → IdentityHasher
after_write state bytes =
    if nat_le 8 (length bytes) then record { number = from_le_bytes w64 (take 8 bytes) } else state
