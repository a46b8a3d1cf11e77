-- What the type of a byte slice implies.
use Rattle.std.specs.Prelude.{ℕ, ◌<◌, List, slice_index}

abbrev pub AreBytes : List ℕ → Type 0
AreBytes bytes = (i : ℕ) → slice_index bytes i < 256
