use Rattle.std.specs.Prelude.{ℕ, List, bit_and}
use Rattle.planus_back.specs.Hashes.{hash_of}

-- Only the code of a cache depends on this function: every contract would hold for any other.
unfoldable pub number_of : ℕ → List ℕ → ℕ
number_of choice key = bit_and (hash_of key) choice
